-- Points past a diagonal: beyond it, or on it.
-- The points of a triangle are past each of its sides, walked over from the other side of it.
-- A segment from a point e to a point m, where a line has m strictly on one side and e not on the other: all of the segment but e is on that side.
use Rattle.std.proofs.Common.{◌≡◌, ◌⊎◌, inl, inr, pos, ◌≤ℤ◌, ℕ, List}
use Rattle.integer_algebra.proofs.SignSteps.{negative_not_zero, weak_order, zero_not_positive, turned_negative, at_least_unless}
use Rattle.integer_algebra.proofs.SignSteps.{mean_last_positive, positive_of_not_zero, turned_positive}
use Rattle.integer_algebra.proofs.Signs.{is_negative, is_positive, is_zero, sign}
use Rattle.plane.proofs.Points.{whole_is_point}
use Rattle.plane.proofs.Segments.{on_is_straight, same_without_last}
use Rattle.plane.proofs.Turns.{straight_swap_first, determinant_swap_first, combination_of, determinant_along}
use Rattle.plane.specs.Prelude.{determinant, height_over, IsLeft, IsPoint, IsRight, IsSame, On, Point, Triple, whole}
use Rattle.rings.specs.Ring.{vertex}
use Rattle.ring_laws.proofs.Triangles.{on_first_side}
use Rattle.meshes.proofs.TreeLeaves.{closed_of_sides, next_corner, turns_left}
use Rattle.meshes.specs.Prelude.{HasSide, IsInTri}
use Rattle.meshes.specs.declared.tri.Tri.{Tri}

-- z is past the diagonal from l to r: right of the way from r to l, or on the segment between them
abbrev pub IsPastDiagonal : Point → Point → Triple → Type 0
IsPastDiagonal l r z = IsRight (whole r) (whole l) z ⊎ On z (whole l) (whole r)

-- no such point is above the diagonal,
pub past_not_above : (l r : Point) (z : Triple) → IsPoint z → IsPastDiagonal l r z → height_over l r z ≤ℤ pos 0
past_not_above l r z at_z (inl beyond) = weak_order beyond
past_not_above l r z at_z (inr on) =
    zero_not_positive (straight_swap_first (whole l) (whole r) z (on_is_straight z (whole l) (whole r) at_z (whole_is_point l) (whole_is_point r) on))

-- and one on its line is on it
pub past_on_line : (l r : Point) (z : Triple) → IsPastDiagonal l r z → height_over l r z ≡ pos 0 → On z (whole l) (whole r)
past_on_line l r z (inl beyond) level = absurd (negative_not_zero beyond level)
past_on_line l r z (inr on) level = on

module _ (corners : List Point) (t : Tri)
    (left : IsLeft (whole (vertex corners t.a)) (whole (vertex corners t.b)) (whole (vertex corners t.c)))
    (i j : ℕ) (has : HasSide t i j) where
  pub past_of_triangle : (y : Triple) → IsPoint y → IsInTri corners t y → IsPastDiagonal (vertex corners i) (vertex corners j) y
  past_of_triangle y at_y in_y =
      let (m, next, last) = next_corner t i j has in
      let closed = closed_of_sides corners t left i j m has next y in_y in
      elim (sign (determinant (whole (vertex corners i)) (whole (vertex corners j)) y)) [
        | is_negative h ↦ absurd (closed.not_right_of_first h)
        | is_zero h ↦ inr (on_first_side (vertex corners i) (vertex corners j) (vertex corners m) (turns_left corners t left i j m has next) y at_y closed h)
        | is_positive h ↦ inl (turned_negative (determinant_swap_first (whole (vertex corners i)) (whole (vertex corners j)) y) h)
      ]

module _ (p q z e m : Triple) (at_z : IsPoint z) (at_e : IsPoint e) (at_m : IsPoint m) (on : On z e m) (other : ¬ IsSame z e) where
  -- where e is not right of a line, and m left of it, all of the segment but e is left of it,
  pub left_towards : ¬ IsRight p q e → IsLeft p q m → IsLeft p q z
  left_towards not_right left =
      let c = combination_of z e m at_z at_e at_m on in
      mean_last_positive c.k c.l c.m (determinant p q z) (determinant p q e) (determinant p q m) c.k_positive c.l_nonnegative
      (positive_of_not_zero c.m_nonnegative (λ none. other (same_without_last z e m c none))) (determinant_along z e m c p q)
      (at_least_unless not_right) left

-- and with the sides exchanged
pub right_towards : (p q z e m : Triple) → IsPoint z → IsPoint e → IsPoint m → On z e m → ¬ IsSame z e → ¬ IsLeft p q e → IsRight p q m
    → IsRight p q z
right_towards p q z e m at_z at_e at_m on other not_left right =
    turned_negative (determinant_swap_first q p z)
    (left_towards q p z e m at_z at_e at_m on other (λ h. not_left (turned_positive (determinant_swap_first q p e) h))
    (turned_positive (determinant_swap_first p q m) right))
