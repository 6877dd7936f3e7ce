-- What holds of two neighbours in a list, at each default.
use Rattle.std.proofs.Common.{◌≡◌, ℕ, ◌+◌, ◌-◌, ◌<◌, List, length, get_or, sym, subst, ◌∙◌, arith}
use Rattle.std.proofs.lemmas.List.{get_or_default}
use Rattle.std.specs.List.{AllAdjacentBelow}

module _ {X : Type 0} (R : X → X → Type 0) (xs : List X) (i : ℕ) (x y : X) (not_first : 0 < i) (below : i < length xs)
    (x_is : x ≡ get_or xs (i - 1) x) (y_is : y ≡ get_or xs i y) where
  -- what holds of an item and the next, at each default
  pub adjacent_from : R x y → (d : X) → R (get_or xs (i - 1) d) (get_or xs i d)
  adjacent_from h d =
      let first : get_or xs (i - 1) d ≡ x = get_or_default xs (i - 1) d x (omega arith) ∙ sym x_is in
      let second : get_or xs i d ≡ y = get_or_default xs i d y below ∙ sym y_is in
      subst (λ p. R p (get_or xs i d)) (sym first) (subst (R x) (sym second) h)

  -- and what holds of all neighbours holds of these
  pub adjacent_at : AllAdjacentBelow R xs (length xs) → R x y
  adjacent_at all =
      let next : i - 1 + 1 ≡ i = omega arith in
      let h : R (get_or xs (i - 1) x) (get_or xs i x) = subst (λ k. R (get_or xs (i - 1) x) (get_or xs k x)) next (all (i - 1) x (omega arith)) in
      subst (λ p. R p y) (sym x_is) (subst (R (get_or xs (i - 1) x)) (get_or_default xs i x y below ∙ sym y_is) h)
