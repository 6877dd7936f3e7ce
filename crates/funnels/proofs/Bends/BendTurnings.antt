-- Bends by the turning on one side of their vertex: the neighbours in the ring are not ahead of the one ray, nor behind the other.
use Rattle.std.proofs.Common.{inl, inr, Bool, true, false, pos, ◌<ℤ◌, ◌≤ℤ◌, List, arith}
use Rattle.std.proofs.lemmas.Int.{ints}
use Rattle.integer_algebra.proofs.SignSteps.{at_least_unless, at_most_unless, negative_not_zero, not_both_positive}
use Rattle.integer_algebra.proofs.SignSteps.{not_negative_of_opposite, opposite_not_positive, positive_of_opposite}
use Rattle.plane.specs.Cone.{IsInCone}
use Rattle.plane.specs.Prelude.{IsStraight, Point, Triple, whole}
use Rattle.rings.specs.Bend.{AreNeighbours, IsBend, IsReflexVertex}
use Rattle.funnels.specs.Fanned.{turning}

-- ---- cones

-- where c is behind a by less than a half turn, what is not ahead of a, and has c not ahead, is in the closed cone between them
cone_of_turnings : (side : Bool) (v : Point) (a c u : Triple) → turning side v a c <ℤ pos 0 → turning side v a u ≤ℤ pos 0
    → turning side v u c ≤ℤ pos 0 → IsInCone (whole v) a c u
cone_of_turnings true v a c u wide first last = inr (wide, λ left. not_both_positive left first, λ left. not_both_positive left last)
cone_of_turnings false v a c u wide first last =
    inl (positive_of_opposite wide, not_negative_of_opposite first, not_negative_of_opposite last)

-- and nothing else is
turnings_of_cone : (side : Bool) (v : Point) (a c u : Triple) → turning side v a c <ℤ pos 0 → IsInCone (whole v) a c u
    → (turning side v a u ≤ℤ pos 0) × (turning side v u c ≤ℤ pos 0)
turnings_of_cone true v a c u wide (inl h) = let left = h.0 in absurd (omega (arith, ints))
turnings_of_cone true v a c u wide (inr h) = (at_most_unless h.1, at_most_unless h.2)
turnings_of_cone false v a c u wide (inl h) = (opposite_not_positive (at_least_unless h.1), opposite_not_positive (at_least_unless h.2))
turnings_of_cone false v a c u wide (inr h) = let right = h.0 in absurd (omega (arith, ints))

-- nor are the two rays on one line
not_straight : (side : Bool) (v : Point) (a c : Triple) → turning side v a c <ℤ pos 0 → ¬ IsStraight (whole v) a c
not_straight true v a c wide straight = negative_not_zero wide straight
not_straight false v a c wide straight = omega (arith, ints)

-- ---- bends

module _ (side : Bool) (ring : List Point) (x v y : Point) (wide : turning side v (whole x) (whole y) <ℤ pos 0) where
  -- so a reflex vertex whose neighbours are so makes a bend,
  pub bend_of_turnings : IsReflexVertex ring v
      → ((u : Point) → AreNeighbours ring v u
      → (turning side v (whole x) (whole u) ≤ℤ pos 0) × (turning side v (whole u) (whole y) ≤ℤ pos 0))
      → IsBend ring x v y
  bend_of_turnings reflex cone = record {
    reflex = reflex;
    turns = not_straight side v (whole x) (whole y) wide;
    in_cone = λ u n. cone_of_turnings side v (whole x) (whole y) (whole u) wide (cone u n).0 (cone u n).1;
  }

  -- and at a bend the neighbours are so
  pub turnings_of_bend : IsBend ring x v y → (u : Point) → AreNeighbours ring v u
      → (turning side v (whole x) (whole u) ≤ℤ pos 0) × (turning side v (whole u) (whole y) ≤ℤ pos 0)
  turnings_of_bend bend u n = turnings_of_cone side v (whole x) (whole y) (whole u) wide (bend.in_cone u n)
