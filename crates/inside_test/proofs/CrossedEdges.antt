-- Crossed edges by the turn at them.
use Rattle.std.proofs.Common.{◌≡◌, zero, suc, Bool, true, false, ℤ, pos, negsuc, neg_ℤ, refl, arith}
use Rattle.std.proofs.lemmas.Int.{ints, to_z-of_z}
use Rattle.std.specs.Int.Signed.{lt_z}
use Rattle.std.specs.Prelude.{◌&&◌, ◌||◌}
use Rattle.plane.proofs.Order.{follows, not_after_from, not_after_of_precedes, precedence, precedes, same}
use Rattle.plane.proofs.Segments.{on_from_order, on_first_end, on_reversed, on_same_point}
use Rattle.plane.proofs.Turns.{determinant_swap_first, straight_swap_first}
use Rattle.plane.specs.Order.{LiesBetween}
use Rattle.plane.specs.Point.{IsPoint, Point, Triple, whole}
use Rattle.plane.specs.Segment.{On}
use Rattle.plane.specs.Turn.{IsStraight, determinant}
use Rattle.rings.specs.Edge.{Edge, edge}
use Rattle.rings.specs.Inside.{is_crossed}
use Rattle.exact_plane.specs.Direction.{direction_of, turn_of}
use Rattle.inside_test.specs.Meeting.{rises}
use Rattle.exact_plane.specs.declared.direction.Direction.TheVariants.{Left, Right}

-- whether an edge is crossed that rises past a point, or falls past it, where the determinant is z
abbrev crossed_by : Bool → Bool → ℤ → Bool
crossed_by rises falls z = (rises && lt_z (pos 0) z) || (falls && lt_z z (pos 0))

-- a positive determinant lets only rising count,
only_rises : (rises falls : Bool) → ((rises && true) || (falls && false)) ≡ rises
only_rises true true = refl
only_rises true false = refl
only_rises false true = refl
only_rises false false = refl

-- and a negative one only falling
only_falls : (rises falls : Bool) → ((rises && false) || (falls && true)) ≡ falls
only_falls true true = refl
only_falls true false = refl
only_falls false true = refl
only_falls false false = refl

-- the two tests of the determinant, where the turn is to the left,
tests_left : (z : ℤ) → direction_of z ≡ Left → (lt_z (pos 0) z ≡ true) × (lt_z z (pos 0) ≡ false)
tests_left (pos zero) t = cc
tests_left (pos (suc n)) t = (grind (arith, ints), grind (arith, ints))
tests_left (negsuc n) t = cc

-- to the right
tests_right : (z : ℤ) → direction_of z ≡ Right → (lt_z (pos 0) z ≡ false) × (lt_z z (pos 0) ≡ true)
tests_right (pos zero) t = cc
tests_right (pos (suc n)) t = cc
tests_right (negsuc n) t = (grind (arith, ints), grind (arith, ints))

-- to the left an edge is crossed that rises,
by_left : (rises falls : Bool) (z : ℤ) → direction_of z ≡ Left → crossed_by rises falls z ≡ rises
by_left rises falls z t = let (up, down) = tests_left z t in rw (up, down) (only_rises rises falls)

-- to the right one that falls
by_right : (rises falls : Bool) (z : ℤ) → direction_of z ≡ Right → crossed_by rises falls z ≡ falls
by_right rises falls z t = let (up, down) = tests_right z t in rw (up, down) (only_falls rises falls)

-- an edge that neither rises past the point nor falls past it is not crossed
by_none : (rises falls : Bool) (z : ℤ) → rises ≡ false → falls ≡ false → crossed_by rises falls z ≡ false
by_none rises falls z up down = rw (up, down) refl

-- nor is it crossed otherwise read backward
by_backward : (rises falls : Bool) (z y : ℤ) → y ≡ neg_ℤ z → crossed_by falls rises y ≡ crossed_by rises falls z
by_backward rises falls z y e = grind (arith, ints)

module _ (e : Edge) (p : Triple) where
  -- left of the edge, it is crossed where it rises past the point
  pub crossed_from_left : turn_of (whole e.from) (whole e.to) p ≡ Left → is_crossed e p ≡ rises e.from e.to p
  crossed_from_left turns = by_left (rises e.from e.to p) (rises e.to e.from p) _ turns

  -- right of it, where it falls
  pub crossed_from_right : turn_of (whole e.from) (whole e.to) p ≡ Right → is_crossed e p ≡ rises e.to e.from p
  crossed_from_right turns = by_right (rises e.from e.to p) (rises e.to e.from p) _ turns

  -- where it does not pass the height of the point, it is not crossed
  pub not_crossed_unpassed : rises e.from e.to p ≡ false → rises e.to e.from p ≡ false → is_crossed e p ≡ false
  not_crossed_unpassed up down = by_none (rises e.from e.to p) (rises e.to e.from p) (determinant (whole e.from) (whole e.to) p) up down

-- an edge that is read backward is crossed as before
pub crossed_backward : (a b : Point) (p : Triple) → is_crossed (edge b a) p ≡ is_crossed (edge a b) p
crossed_backward a b p = by_backward (rises a b p) (rises b a p) _ _ (determinant_swap_first (whole a) (whole b) p)

-- ---- a point on the line of an edge

module _ (a p b : Triple) (at_a : IsPoint a) (at_p : IsPoint p) (at_b : IsPoint b) where
  -- it is on the edge where it comes between the ends
  pub on_from_between : IsStraight a b p → LiesBetween a p b → On p a b
  on_from_between straight between = elim (precedence a p) [
    | precedes h ↦
        let last = not_after_from p b (λ k. between.not_after (h, k)) in
        on_from_order p a b straight at_p at_a at_b (not_after_of_precedes a p h) last
    | same s ↦ on_same_point at_a s (on_first_end a b)
    | follows h ↦
        let first = not_after_from b p (λ k. between.not_before (h, k)) in
        on_reversed p b a (on_from_order p b a (straight_swap_first a b p straight) at_p at_b at_a first (not_after_of_precedes p a h))
  ]

-- numbers that pass through a register
pub ruleset registers = (to_z-of_z)
