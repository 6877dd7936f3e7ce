-- Where the diagonal of a quadrilateral is to be flipped, the two new triangles run counterclockwise.
use Rattle.std.proofs.Common.{◌⊎◌, inl, inr, sym, subst, ◌<ℤ◌, pos, List}
use Rattle.plane.proofs.Order.{Comparison, after, before, compare_points, equal}
use Rattle.plane.proofs.Turns.{determinant_shift, determinant_shift_back}
use Rattle.plane.specs.Order.{IsBefore}
use Rattle.plane.specs.Point.{Point, whole}
use Rattle.plane.specs.Turn.{IsLeft}
use Rattle.rings.specs.Ring.{vertex}
use Rattle.meshes.proofs.Sides.{left_apart}
use Rattle.flip_tri.proofs.HalfPlanes.{left_trans}
use Rattle.flip_tri.specs.Flips.{IsQuadToFlip}
use Rattle.flip_tri.specs.declared.quad.Quad.{Quad}

-- a turn to the left from the second of three points,
pub left_shift : (a b c : Point) → IsLeft (whole a) (whole b) (whole c) → IsLeft (whole b) (whole c) (whole a)
left_shift a b c h = subst (λ z. pos 0 <ℤ z) (sym (determinant_shift (whole a) (whole b) (whole c))) h

-- and from the third
pub left_shift_back : (a b c : Point) → IsLeft (whole a) (whole b) (whole c) → IsLeft (whole c) (whole a) (whole b)
left_shift_back a b c h = subst (λ z. pos 0 <ℤ z) (sym (determinant_shift_back (whole a) (whole b) (whole c))) h

-- a point comes before three others
pub record IsLeast (p q r s : Point) : Type 0 where
  pub first : IsBefore p q
  pub second : IsBefore p r
  pub third : IsBefore p s

module _ (corners : List Point) (quad : Quad) where
  abbrev from : Point
  from = vertex corners quad.from

  abbrev to : Point
  to = vertex corners quad.to

  abbrev left : Point
  left = vertex corners quad.left

  abbrev right : Point
  right = vertex corners quad.right

  module _ (near : IsLeft (whole from) (whole to) (whole left)) (far : IsLeft (whole to) (whole from) (whole right))
      (to_flip : IsQuadToFlip corners quad) where
    earlier : Comparison from to → (¬ IsBefore from to) → IsBefore to from
    earlier (before h) not_before = absurd (not_before h)
    earlier (after h) not_before = h
    earlier (equal e) not_before = absurd ((left_apart (whole from) (whole to) (whole left) near).0 (λ i. whole (e i)))

    -- an end of the diagonal is the least corner
    pub least_is : IsLeast from to left right ⊎ IsLeast to from left right
    least_is = elim to_flip [
      | inl h ↦ inl (record { first = h.0; second = h.1.before_left; third = h.1.before_right })
      | inr h ↦ inr (record { first = earlier (compare_points from to) h.0; second = h.1.before_right; third = h.1.before_left })
    ]

    -- the triangle with the corner `from`,
    pub first_turns : IsLeft (whole from) (whole right) (whole left)
    first_turns = elim to_flip [
      | inl h ↦ left_trans from right to left h.1.before_right h.0 h.1.before_left (left_shift to from right far) near
      | inr h ↦ left_shift left from right h.1.convex
    ]

    -- and the one with the corner `to`
    pub second_turns : IsLeft (whole right) (whole to) (whole left)
    second_turns = elim to_flip [
      | inl h ↦ h.1.convex
      | inr h ↦ left_shift_back to left right (left_trans to left from right h.1.before_right (earlier (compare_points from to) h.0) h.1.before_left
          (left_shift from to left near) far)
    ]
