-- A funnel whose right end a search leaves, one name after another.
use Rattle.std.proofs.Common.{◌≡◌, sym, ap, subst, ◌∙◌, ℕ, ◌+◌, ◌-◌, ◌<◌, ◌≤◌, List, [], ◌∷◌, ◌++◌, length, arith}
use Rattle.std.proofs.lemmas.List.{append_assoc}
use Rattle.plane.specs.Point.{Point, Triple}
use Rattle.funnels.specs.Funnel.{IsPassed, IsReachedFrom}
use Rattle.exact_plane.specs.declared.turns.Spot.{Spot}
use Rattle.exact_plane.specs.Names.{name_at, named_points}
use Rattle.funnel_walk.proofs.PathNames.{left_more, length_named}
use Rattle.funnel_walk.specs.Names.{left_names}

-- the way does not come from a place behind the last one, and the names that it leaves behind so far are after the given ones
pub record IsSoughtRight (at : Spot → Point) (names : List Spot) (apex : ℕ) (given : List Spot) (y : Triple) (last : ℕ) (out : List Spot) : Type 0 where
  pub within : last < length names
  pub behind : out ≡ given ++ left_names names apex (apex - last)
  pub not_passed : last + 1 < length names → ¬ IsPassed (named_points at names) apex (last + 1) y

module _ (at : Spot → Point) (names : List Spot) (apex : ℕ) (given : List Spot) (y : Triple) (last : ℕ) (out : List Spot)
    (so_far : IsSoughtRight at names apex given y last out) where
  -- where the last edge is passed, the way comes from the last place
  pub right_ends : (0 < last → IsPassed (named_points at names) apex last y) → IsReachedFrom (named_points at names) apex last y
  right_ends passed = record {
    within = omega (arith, so_far.within, length_named at names);
    passed = passed;
    not_passed = λ more. so_far.not_passed (omega (arith, more, length_named at names));
  }

  module _ (inner : 0 < last) (past : ¬ IsPassed (named_points at names) apex last y) where
    -- where it is not, the way comes from a place before,
    one_less : (out_after : List Spot) → out_after ≡ given ++ left_names names apex (apex - (last - 1))
        → IsSoughtRight at names apex given y (last - 1) out_after
    one_less out_after out_is = record {
      within = omega (arith, so_far.within);
      behind = out_is;
      not_passed = λ more passed. let same : last - 1 + 1 ≡ last = omega arith in
          past (subst (λ k. IsPassed (named_points at names) apex k y) same passed);
    }

    -- and up to the apex, the last name is left behind
    pub apex_goes : last ≤ apex → IsSoughtRight at names apex given y (last - 1) (out ++ name_at names last ∷ [])
    apex_goes is = one_less (out ++ name_at names last ∷ [])
        (let more : apex - (last - 1) ≡ apex - last + 1 = omega arith in
        let place : last ≡ apex - (apex - last) = omega arith in
        ap (λ ns. ns ++ name_at names last ∷ []) so_far.behind
        ∙ append_assoc given (left_names names apex (apex - last)) (name_at names last ∷ [])
        ∙ ap (λ i. given ++ (left_names names apex (apex - last) ++ name_at names i ∷ [])) place
        ∙ ap (λ ns. given ++ ns) (sym (left_more names apex (apex - last)))
        ∙ ap (λ k. given ++ left_names names apex k) (sym more))

    -- on the right of the apex nothing is
    pub other_goes : apex < last → IsSoughtRight at names apex given y (last - 1) out
    other_goes is = one_less out
        (let none : apex - last ≡ apex - (last - 1) = omega (arith, is) in so_far.behind ∙ ap (λ k. given ++ left_names names apex k) none)
