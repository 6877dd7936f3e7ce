-- The ring without an ear does not wind round the points of the ear.
use Rattle.std.proofs.Common.{◌≡◌, ◌⊎◌, inl, inr, ◌∷◌, sym, subst, ◌∙◌, List, pos, negsuc, ◌+ℤ◌, ◌*ℤ◌, ◌≤ℤ◌, arith}
use Rattle.std.proofs.lemmas.Int.{ints}
use Rattle.integer_algebra.proofs.SignSteps.{not_both, turned_negative, zero_not_negative}
use Rattle.plane.proofs.Points.{whole_is_point}
use Rattle.plane.proofs.Segments.{on_is_straight, same_straight, stays_right}
use Rattle.plane.proofs.Turns.{determinant_same_ends, determinant_same_first, determinant_same_last, determinant_swap_last}
use Rattle.plane.specs.Prelude.{IsInTriangle, IsLeft, IsPoint, IsRight, IsSame, IsStraight, Point, Triple, whole}
use Rattle.rings.proofs.Crossings.{winding_law}
use Rattle.rings.proofs.Inside.{extreme_point}
use Rattle.rings.proofs.Vertices.{AllEnds, all_ends_map}
use Rattle.rings.specs.Prelude.{Edge, edge, IsClosed, IsOnSome, winding}
use Rattle.ring_laws.proofs.Triangles.{between_in_triangle, middle_in_triangle}

-- ---- the corners of a triangle

module _ (u v w : Point) (left : IsLeft (whole u) (whole v) (whole w)) where
  -- the tip is right of the base
  pub tip_is_right : IsRight (whole u) (whole w) (whole v)
  tip_is_right = turned_negative (determinant_swap_last (whole u) (whole v) (whole w)) left

  -- the ends of the base differ
  pub base_differs : ¬ (u ≡ w)
  base_differs e =
      not_both (subst (λ (c : Point). IsRight (whole u) (whole c) (whole v)) (sym e) tip_is_right)
      (zero_not_negative (determinant_same_first (whole u) (whole v)))

-- where nothing is to the right of the tip
least_is_extreme : (v a : Point) → v.x ≤ℤ a.x
    → ((negsuc 0 *ℤ a.x +ℤ pos 0 *ℤ a.y) *ℤ pos 1) ≤ℤ (negsuc 0 *ℤ v.x +ℤ pos 0 *ℤ v.y)
least_is_extreme v a h = omega (arith, ints)

-- ---- the ring without the ear

-- the edges es close the base; no end is left of the tip in x, and no edge enters the triangle
module _ (u v w : Point) (es : List Edge) (left : IsLeft (whole u) (whole v) (whole w)) (closed : IsClosed (edge u w ∷ es))
    (least : AllEnds (λ a. v.x ≤ℤ a.x) (edge u w ∷ es))
    (outside : (x : Triple) → IsPoint x → IsOnSome es x → IsInTriangle u v w x → IsSame x (whole u) ⊎ IsSame x (whole w)) where
  -- a point of the triangle on the other edges is on the line of the base
  pub on_others_straight : (x : Triple) → IsPoint x → IsOnSome es x → IsInTriangle u v w x → IsStraight (whole u) (whole w) x
  on_others_straight x at_x on t = elim (outside x at_x on t) [
    | inl s ↦ same_straight (whole u) (whole w) x (whole u) (whole_is_point u) s (determinant_same_ends (whole u) (whole w))
    | inr s ↦ same_straight (whole u) (whole w) x (whole w) (whole_is_point w) s (determinant_same_last (whole u) (whole w))
  ]

  -- so what is right of the base in the triangle is on no edge
  off_below : (x : Triple) → IsPoint x → IsInTriangle u v w x → IsRight (whole u) (whole w) x → ¬ (IsOnSome (edge u w ∷ es) x)
  off_below x at_x t right (inl on) =
      not_both right (zero_not_negative (on_is_straight x (whole u) (whole w) at_x (whole_is_point u) (whole_is_point w) on))
  off_below x at_x t right (inr on) = not_both right (zero_not_negative (on_others_straight x at_x on t))

  -- the tip is not wound round,
  pub winding_at_tip : winding (edge u w ∷ es) (whole v) ≡ pos 0
  winding_at_tip =
      extreme_point (negsuc 0) (pos 0) (λ h. let e = h.0 in omega (arith, ints)) (edge u w ∷ es) closed (whole v) (whole_is_point v)
      (off_below (whole v) (whole_is_point v) (middle_in_triangle u v w left) (tip_is_right u v w left))
      (all_ends_map (λ a h. least_is_extreme v a h) (edge u w ∷ es) least)

  -- nor is what is right of the base in the triangle
  pub winding_below : (p : Triple) → IsPoint p → IsInTriangle u v w p → IsRight (whole u) (whole w) p
      → winding (edge u w ∷ es) p ≡ pos 0
  winding_below p at_p t right =
      let at_v = whole_is_point v in
      winding_law p (whole v) at_p at_v (edge u w ∷ es) closed
      (λ x at_x on. off_below x at_x (between_in_triangle u v w x p (whole v) at_x at_p at_v t (middle_in_triangle u v w left) on)
      (stays_right x p (whole v) at_x at_p at_v on (whole u) (whole w) right (tip_is_right u v w left)))
      ∙ winding_at_tip
