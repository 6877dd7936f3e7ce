-- When two edges are one below the other, by the turns that were taken.
use Rattle.std.proofs.Common.{◌≡◌, inl, inr, sym, subst, List, ℕ}
use Rattle.integer_algebra.proofs.SignSteps.{negative_not_zero, positive_not_zero}
use Rattle.plane.proofs.Turns.{determinant_same_ends, determinant_same_last}
use Rattle.plane.specs.Point.{Point, whole}
use Rattle.plane.specs.Turn.{IsStraight}
use Rattle.rings.specs.Below.{EndsBelow, IsBelow, IsBelowAt, StartsBelow}
use Rattle.rings.specs.Edge.{Edge, edge}
use Rattle.rings.specs.Ring.{vertex}

module _ (e f : Edge) where
  -- where one of two ends shows that one edge is strictly below the other, it is no common end
  differ : (p q : Point) → IsStraight (whole e.from) (whole e.to) (whole p) → IsStraight (whole f.from) (whole f.to) (whole q)
      → IsBelowAt e f p q → ¬ (p ≡ q)
  differ p q on_e on_f (inl left) h = positive_not_zero left (subst (λ (v : Point). IsStraight (whole e.from) (whole e.to) (whole v)) h on_e)
  differ p q on_e on_f (inr right) h = negative_not_zero right (subst (λ (v : Point). IsStraight (whole f.from) (whole f.to) (whole v)) (sym h) on_f)

  starts_differ : StartsBelow e f → ¬ (e.from ≡ f.from)
  starts_differ = differ e.from f.from (determinant_same_ends (whole e.from) (whole e.to)) (determinant_same_ends (whole f.from) (whole f.to))

  ends_differ : EndsBelow e f → ¬ (e.to ≡ f.to)
  ends_differ = differ e.to f.to (determinant_same_last (whole e.from) (whole e.to)) (determinant_same_last (whole f.from) (whole f.to))

  -- so two of the tests are enough
  pub by_both : StartsBelow e f → EndsBelow e f → IsBelow e f
  by_both s t = record { start = inl s; finish = inl t; differ = λ h k. starts_differ s h }

  pub by_start : StartsBelow e f → e.to ≡ f.to → IsBelow e f
  by_start s k = record { start = inl s; finish = inr k; differ = λ h _. starts_differ s h }

  pub by_finish : e.from ≡ f.from → EndsBelow e f → IsBelow e f
  by_finish h t = record { start = inr h; finish = inl t; differ = λ _ k. ends_differ t k }

-- the same of vertices by other names of their numbers
pub below_as : (ring : List Point) {a b c d A B C D : ℕ} → a ≡ A → b ≡ B → c ≡ C → d ≡ D
    → IsBelow (edge (vertex ring a) (vertex ring b)) (edge (vertex ring c) (vertex ring d))
    → IsBelow (edge (vertex ring A) (vertex ring B)) (edge (vertex ring C) (vertex ring D))
below_as ring ea eb ec ed h = rw (ea, eb, ec, ed) at h
