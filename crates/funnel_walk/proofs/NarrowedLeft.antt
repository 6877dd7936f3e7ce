-- A funnel from which names on the left are taken away, one after another.
use Rattle.std.proofs.Common.{◌≡◌, ◌≢◌, sym, ap, subst, ◌∙◌, ℕ, ◌+◌, ◌-◌, ◌<◌, ◌≤◌, List, [], ◌∷◌, ◌++◌, length, drop, arith}
use Rattle.std.proofs.lemmas.List.{append_assoc, drop-drop, length-drop}
use Rattle.plane.specs.Point.{Point, Triple}
use Rattle.rings.specs.Chain.{point_at}
use Rattle.funnels.proofs.Funnels.{passed_same}
use Rattle.funnels.specs.Funnel.{IsPassed, IsReachedFrom}
use Rattle.exact_plane.specs.declared.turns.Spot.{Spot}
use Rattle.exact_plane.specs.Names.{name_at, named_points}
use Rattle.funnel_walk.proofs.PathNames.{length_named, name_behind, point_of_name, right_more}
use Rattle.funnel_walk.specs.Names.{right_names}

-- names of a funnel are left from a place on, with the apex at place `now`, and the names behind are after the given ones
pub record IsNarrowedLeft (at : Spot → Point) (old : List Spot) (apex : ℕ) (given : List Spot) (y : Triple) (names : List Spot) (now : ℕ)
    (out : List Spot) : Type 0 where
  pub some : 0 < length names
  pub fewer : length names ≤ length old
  pub kept : names ≡ drop (length old - length names) old
  pub apex_is : now ≡ apex - (length old - length names)
  pub behind : out ≡ given ++ right_names old apex ((length old - length names) - apex)
  pub passed : 0 < length old - length names → IsPassed (named_points at old) apex (length old - length names) y

module _ (at : Spot → Point) (old : List Spot) (apex : ℕ) (given : List Spot) (y : Triple) where
  module _ (names : List Spot) (now : ℕ) (out : List Spot) (so_far : IsNarrowedLeft at old apex given y names now out) where
    -- the names that are left are those of the whole funnel, so many places further on,
    same_name : (i : ℕ) → name_at names i ≡ name_at old ((length old - length names) + i)
    same_name i = ap (λ ns. name_at ns i) so_far.kept ∙ name_behind old (length old - length names) i

    -- with the same points,
    same_point : (i k : ℕ) → i < length names → k ≡ (length old - length names) + i
        → point_at (named_points at names) i ≡ point_at (named_points at old) k
    same_point i k below k_is = point_of_name at names i below ∙ ap at (same_name i ∙ ap (name_at old) (sym k_is))
        ∙ sym (point_of_name at old k (omega (arith, so_far.fewer)))

    module _ (more : 1 < length names) where
      -- so the first edge that is left is passed as it is in the whole funnel,
      passed_in_whole : IsPassed (named_points at names) now 1 y → IsPassed (named_points at old) apex (length old - length names + 1) y
      passed_in_whole = passed_same (named_points at names) (named_points at old) now apex 1 (length old - length names + 1) y
          (λ h. omega (arith, so_far.apex_is)) (λ h. omega (arith, so_far.apex_is))
          (same_point 1 (length old - length names + 1) more (omega arith))
          (same_point 0 (length old - length names + 1 - 1) (omega arith) (omega arith))

      passed_in_rest : IsPassed (named_points at old) apex (length old - length names + 1) y → IsPassed (named_points at names) now 1 y
      passed_in_rest = passed_same (named_points at old) (named_points at names) apex now (length old - length names + 1) 1 y
          (λ h. omega (arith, so_far.apex_is)) (λ h. omega (arith, so_far.apex_is))
          (sym (same_point 1 (length old - length names + 1) more (omega arith)))
          (sym (same_point 0 (length old - length names + 1 - 1) (omega arith) (omega arith)))

    -- and where it is not, the way comes from the first place that is left
    pub left_ends : (1 < length names → ¬ IsPassed (named_points at names) now 1 y)
        → IsReachedFrom (named_points at old) apex (length old - length names) y
    left_ends past = record {
      within = omega (arith, so_far.some, so_far.fewer, length_named at old);
      passed = so_far.passed;
      not_passed = λ more passed.
          let some_left : 1 < length names = omega (arith, more, so_far.fewer, length_named at old) in
          past some_left (passed_in_rest some_left passed);
    }

    module _ (more : 1 < length names) (passed : IsPassed (named_points at names) now 1 y) where
      -- where it is, the first name goes,
      one_less : (now_after : ℕ) (out_after : List Spot) → now_after ≡ apex - (length old - length names + 1)
          → out_after ≡ given ++ right_names old apex ((length old - length names + 1) - apex)
          → IsNarrowedLeft at old apex given y (drop 1 names) now_after out_after
      one_less now_after out_after now_is out_is =
          let count : length (drop 1 names) ≡ length names - 1 = length-drop 1 names in
          let step : length old - length names + 1 ≡ length old - length (drop 1 names) = omega (arith, so_far.fewer) in
          record {
            some = omega arith;
            fewer = omega (arith, so_far.fewer);
            kept = ap (λ ns. drop 1 ns) so_far.kept ∙ drop-drop 1 (length old - length names) old ∙ ap (λ k. drop k old) step;
            apex_is = now_is ∙ ap (λ k. apex - k) step;
            behind = out_is ∙ ap (λ k. given ++ right_names old apex (k - apex)) step;
            passed = λ inner. subst (λ k. IsPassed (named_points at old) apex k y) step (passed_in_whole more passed);
          }

      -- and where it was the apex, it is left behind
      pub apex_goes : now ≡ 0 → IsNarrowedLeft at old apex given y (drop 1 names) 0 (out ++ name_at names 0 ∷ [])
      apex_goes is = one_less 0 (out ++ name_at names 0 ∷ []) (omega (arith, so_far.apex_is))
          (let behind : ℕ = (length old - length names) - apex in
          let more : behind + 1 ≡ (length old - length names + 1) - apex = omega (arith, so_far.apex_is) in
          let place : (length old - length names) + 0 ≡ apex + behind = omega (arith, so_far.apex_is) in
          let name : name_at names 0 ≡ name_at old (apex + behind) = same_name 0 ∙ ap (name_at old) place in
          ap (λ ns. ns ++ name_at names 0 ∷ []) so_far.behind
          ∙ append_assoc given (right_names old apex behind) (name_at names 0 ∷ [])
          ∙ ap (λ n. given ++ (right_names old apex behind ++ n ∷ [])) name
          ∙ ap (λ ns. given ++ ns) (sym (right_more old apex behind))
          ∙ ap (λ k. given ++ right_names old apex k) more)

      -- where it was not, nothing is
      pub other_goes : now ≢ 0 → IsNarrowedLeft at old apex given y (drop 1 names) (now - 1) out
      other_goes is = one_less (now - 1) out (omega (arith, so_far.apex_is))
          (let none : (length old - length names) - apex ≡ (length old - length names + 1) - apex = omega (arith, so_far.apex_is) in
          so_far.behind ∙ ap (λ k. given ++ right_names old apex k) none)
