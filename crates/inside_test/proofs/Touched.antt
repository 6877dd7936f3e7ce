-- An edge with no end above a point has the point on it where it is touched.
use Rattle.std.proofs.Common.{◌≡◌, inl, inr, ◌∙◌, ℤ, pos, ◌-ℤ◌, ◌*ℤ◌, ◌<ℤ◌, ◌≤ℤ◌, arith}
use Rattle.std.proofs.lemmas.Int.{ints}
use Rattle.integer_algebra.proofs.Laws.{mul_comm}
use Rattle.integer_algebra.proofs.Signs.{comparison, factor_zero, is_above, is_below, is_equal}
use Rattle.plane.proofs.Points.{whole_is_point}
use Rattle.plane.proofs.Segments.{not_after_both, not_before_both, on_first_end, on_is_straight, on_last_end, on_reversed, on_same_point}
use Rattle.plane.specs.Order.{LiesBetween, Precedes}
use Rattle.plane.specs.Point.{IsPoint, IsSame, Point, Triple, whole}
use Rattle.plane.specs.Segment.{On}
use Rattle.plane.specs.Turn.{IsStraight}
use Rattle.inside_test.proofs.ApartEdges.{not_on_below}
use Rattle.inside_test.proofs.CrossedEdges.{on_from_between}
use Rattle.inside_test.proofs.Passed.{beside_is, no_difference, no_factor, no_offset}
use Rattle.inside_test.specs.Meeting.{AreAround, IsTouched}

-- ---- a vertex and a point

module _ (v : Point) (p : Triple) where
  -- a vertex to the left comes before the point in the order of points, and one to the right after it
  pub precedes_left : (v.x *ℤ p.W) <ℤ p.X → Precedes (whole v) p
  precedes_left h = inl (omega (arith, ints))

  pub follows_right : p.X <ℤ (v.x *ℤ p.W) → Precedes p (whole v)
  follows_right h = inl (omega (arith, ints))

  -- one at its height does so only there
  left_of_precedes : v.y *ℤ p.W ≡ p.Y → Precedes (whole v) p → (v.x *ℤ p.W) <ℤ p.X
  left_of_precedes level (inl h) = omega (arith, ints)
  left_of_precedes level (inr h) = absurd (omega (arith, ints, h.1))

  right_of_follows : v.y *ℤ p.W ≡ p.Y → Precedes p (whole v) → p.X <ℤ (v.x *ℤ p.W)
  right_of_follows level (inl h) = omega (arith, ints)
  right_of_follows level (inr h) = absurd (omega (arith, ints, h.1))

-- ---- an edge

-- a product is 0 where it is the rest of two others that are 0
rest_zero : (w d u t s v : ℤ) → w *ℤ d ≡ u *ℤ t -ℤ s *ℤ v → d ≡ pos 0 → t ≡ pos 0 → v *ℤ s ≡ pos 0
rest_zero w d u t s v e d_zero t_zero =
    let f : w *ℤ pos 0 ≡ u *ℤ pos 0 -ℤ s *ℤ v = rw (d_zero, t_zero) at e in
    omega (arith, ints, f, mul_comm v s)

-- the difference from a greater number is not 0
offset_not_zero : {x y : ℤ} → x <ℤ y → ¬ (x -ℤ y ≡ pos 0)
offset_not_zero h e = omega (arith, ints)

module _ (a b : Point) (p : Triple) (at_p : IsPoint p) where
  -- a point at the height of both ends is in line with them,
  level_straight : a.y *ℤ p.W ≡ p.Y → b.y *ℤ p.W ≡ p.Y → IsStraight (whole a) (whole b) p
  level_straight first last =
      no_difference p.W _ _ _ at_p (beside_is a b p)
      (mul_comm (a.x *ℤ p.W -ℤ p.X) (b.y *ℤ p.W -ℤ p.Y) ∙ no_factor _ _ (no_offset last))
      (mul_comm (b.x *ℤ p.W -ℤ p.X) (a.y *ℤ p.W -ℤ p.Y) ∙ no_factor _ _ (no_offset first))

  -- and between them where these are around it
  level_between : AreAround a b p → LiesBetween (whole a) p (whole b)
  level_between h = record {
    not_after = λ k. h.not_left (left_of_precedes a p h.first_level k.0, left_of_precedes b p h.last_level k.1);
    not_before = λ k. h.not_right (right_of_follows a p h.first_level k.0, right_of_follows b p h.last_level k.1);
  }

  -- so it is on an edge that is touched
  pub on_touched : IsTouched a b p → On p (whole a) (whole b)
  on_touched (inl s) = on_same_point (whole_is_point a) s (on_first_end (whole a) (whole b))
  on_touched (inr (inl s)) = on_same_point (whole_is_point b) s (on_last_end (whole a) (whole b))
  on_touched (inr (inr h)) =
      on_from_between (whole a) p (whole b) (whole_is_point a) at_p (whole_is_point b)
      (level_straight h.first_level h.last_level) (level_between h)

  -- ---- and only there

  module _ (on : On p (whole a) (whole b)) where
    -- a point on an edge that begins below it is the other end, where that is at its height
    end_of_low : (a.y *ℤ p.W) <ℤ p.Y → b.y *ℤ p.W ≡ p.Y → IsSame (whole b) p
    end_of_low low level =
        let straight = on_is_straight p (whole a) (whole b) at_p (whole_is_point a) (whole_is_point b) on in
        let product =
        rest_zero p.W _ (a.x *ℤ p.W -ℤ p.X) (b.y *ℤ p.W -ℤ p.Y) (b.x *ℤ p.W -ℤ p.X) (a.y *ℤ p.W -ℤ p.Y) (beside_is a b p) straight (no_offset level) in
        let across = factor_zero (a.y *ℤ p.W -ℤ p.Y) (b.x *ℤ p.W -ℤ p.X) (offset_not_zero low) product in
        record { same_x = omega (arith, ints, across); same_y = omega (arith, ints, level) }

    -- ends at its height are around it
    around_of_on : a.y *ℤ p.W ≡ p.Y → b.y *ℤ p.W ≡ p.Y → AreAround a b p
    around_of_on first last = record {
      first_level = first;
      last_level = last;
      not_left = λ h. not_after_both p (whole a) (whole b) at_p (whole_is_point a) (whole_is_point b) on (precedes_left a p h.0, precedes_left b p h.1);
      not_right = λ h. not_before_both p (whole a) (whole b) at_p (whole_is_point a) (whole_is_point b) on (follows_right a p h.0, follows_right b p h.1);
    }

-- what is at most is not above
not_above : {x y : ℤ} → x ≤ℤ y → y <ℤ x → ⊥
not_above h k = omega (arith, ints)

-- an edge with no end above a point that is on it is touched
pub touched_of_on : (a b : Point) (p : Triple) → IsPoint p → (a.y *ℤ p.W) ≤ℤ p.Y → (b.y *ℤ p.W) ≤ℤ p.Y → On p (whole a) (whole b) → IsTouched a b p
touched_of_on a b p at_p first last on = elim (comparison (a.y *ℤ p.W) p.Y) [
  | is_below k ↦ elim (comparison (b.y *ℤ p.W) p.Y) [
    | is_below l ↦ absurd (not_on_below a b p at_p k l on)
    | is_equal l ↦ inr (inl (end_of_low a b p at_p on k l))
    | is_above l ↦ absurd (not_above last l)
  ]
  | is_equal k ↦ elim (comparison (b.y *ℤ p.W) p.Y) [
    | is_below l ↦ inl (end_of_low b a p at_p (on_reversed p (whole a) (whole b) on) l k)
    | is_equal l ↦ inr (inr (around_of_on a b p at_p on k l))
    | is_above l ↦ absurd (not_above last l)
  ]
  | is_above k ↦ absurd (not_above first k)
]
