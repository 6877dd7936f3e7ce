-- A triangle of a mesh: its points are in the ring and see each other, so a sight of one of them goes on to the others.
use Rattle.std.proofs.Common.{inl, inr, subst, ℕ, ◌<◌, List, length}
use Rattle.plane.proofs.Segments.{on_first_end, on_nested, on_one_side}
use Rattle.plane.specs.Prelude.{IsPoint, IsRight, On, Point, Triple, whole}
use Rattle.rings.specs.Prelude.{IsIn, Sees, vertex}
use Rattle.ring_laws.proofs.Triangles.{between_in_triangle}
use Rattle.meshes.proofs.Sides.{piece_points_all}
use Rattle.meshes.specs.Prelude.{Fits, HasSide, IsInTri, tri_at}
use Rattle.meshes.specs.declared.tri.Tri.{Tri}

-- ---- sights

module _ (ring : List Point) (p x y : Triple) (at_p : IsPoint p) (at_x : IsPoint x) (at_y : IsPoint y) (on : On x p y) where
  -- what sees a point sees all on the way to it
  pub sees_before : Sees ring p y → Sees ring p x
  sees_before sees z at_z on_z = sees z at_z (on_nested z p x p y at_z at_p at_x at_p at_y (on_first_end p y) on on_z)

  -- what sees a point of the way to another, from which the other is seen, sees the other
  pub sees_on : Sees ring p x → Sees ring x y → Sees ring p y
  sees_on first second z at_z on_z = elim (on_one_side z x p y at_z at_x at_p at_y on_z on) [
    | inl before ↦ first z at_z before
    | inr after ↦ second z at_z after
  ]

-- ---- triangles

-- a point of a triangle is right of no side
pub not_right_of_side : (corners : List Point) (t : Tri) (y : Triple) → IsInTri corners t y → (a b : ℕ) → HasSide t a b
    → ¬ IsRight (whole (vertex corners a)) (whole (vertex corners b)) y
not_right_of_side corners t y h a b side =
    let at = λ (n : ℕ). whole (vertex corners n) in
    elim side [
      | inl s ↦ subst (λ n. ¬ IsRight (at n) (at b) y) s.0 (subst (λ n. ¬ IsRight (at t.a) (at n) y) s.1 h.not_right_of_first)
      | inr other ↦ elim other [
        | inl s ↦ subst (λ n. ¬ IsRight (at n) (at b) y) s.0 (subst (λ n. ¬ IsRight (at t.b) (at n) y) s.1 h.not_right_of_second)
        | inr s ↦ subst (λ n. ¬ IsRight (at n) (at b) y) s.0 (subst (λ n. ¬ IsRight (at t.c) (at n) y) s.1 h.not_right_of_third)
      ]
    ]

-- any two points of a triangle that is in a ring see each other there
pub sees_within : (corners ring : List Point) (t : Tri) → ((z : Triple) → IsPoint z → IsInTri corners t z → IsIn ring z) → (p q : Triple)
    → IsPoint p → IsPoint q → IsInTri corners t p → IsInTri corners t q → Sees ring p q
sees_within corners ring t inside p q at_p at_q in_p in_q x at_x on =
    inside x at_x
    (between_in_triangle (vertex corners t.a) (vertex corners t.b) (vertex corners t.c) x p q at_x at_p at_q in_p in_q on)

module _ (corners : List Point) (tris : List Tri) (fits : Fits corners tris) (k : ℕ) (within : k < length tris) where
  -- the points of a triangle of a mesh are in the ring,
  pub triangle_in_ring : (z : Triple) → IsPoint z → IsInTri corners (tri_at tris k) z → IsIn corners z
  triangle_in_ring z at_z in_z =
      subst (λ ring. IsIn ring z) (piece_points_all corners) ((fits.covers z at_z).1 (k, within, in_z))

  -- and any two of them see each other
  pub sees_in_triangle : (p q : Triple) → IsPoint p → IsPoint q → IsInTri corners (tri_at tris k) p → IsInTri corners (tri_at tris k) q
      → Sees corners p q
  sees_in_triangle = sees_within corners corners (tri_at tris k) triangle_in_ring
