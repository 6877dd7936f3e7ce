-- Twice the areas that edges sweep out round the origin: of triangles, and of a ring.
use Rattle.std.proofs.Common.{◌≡◌, refl, ap, ℕ, suc, ◌<◌, ℤ, pos, ◌+ℤ◌, ◌-ℤ◌, ◌*ℤ◌, ◌≤ℤ◌, ◌<ℤ◌, neg_ℤ, List, [], ◌∷◌, ◌++◌, length, arith}
use Rattle.std.proofs.lemmas.Int.{ints}
use Rattle.integer_algebra.proofs.Laws.{mul_comm}
use Rattle.integer_algebra.proofs.Polynomial.{var, lit, ◌⊕◌, ◌⊖◌, ◌⊗◌, same_value}
use Rattle.plane.specs.Point.{Point, whole}
use Rattle.plane.specs.Turn.{determinant}
use Rattle.rings.specs.Edge.{edges_along}
use Rattle.rings.specs.Orientation.{doubled_area, swept}
use Rattle.rings.specs.Ring.{vertex}
use Rattle.meshes.specs.Boundary.{IsOdd, sum_from, sum_round, sum_sides}
use Rattle.meshes.specs.Fits.{IsCounterclockwiseTri, piece_points}
use Rattle.meshes.specs.Side.{tri_at}
use Rattle.meshes.specs.declared.tri.Tri.{Tri}

-- the edge from one point to another sweeps out
abbrev pub swept_by : Point → Point → ℤ
swept_by p q = (p.x *ℤ q.y) -ℤ (q.x *ℤ p.y)

swept_back : (p q : Point) → swept_by q p ≡ neg_ℤ (swept_by p q)
swept_back p q = omega (arith, ints, mul_comm p.x q.y, mul_comm q.x p.y)

-- the sides of a triangle: the determinant of its corners
swept_sides : (p q r : Point) → swept_by p q +ℤ (swept_by q r +ℤ swept_by r p) ≡ determinant (whole p) (whole q) (whole r)
swept_sides p q r =
    let by = λ (i j k l : ℕ). var i ⊗ var l ⊖ var k ⊗ var j in
    let one = lit (pos 1) in
    let row = λ (i j k l : ℕ). var i ⊗ one ⊖ var k ⊗ one in
    same_value
    (by 0 1 2 3 ⊕ (by 2 3 4 5 ⊕ by 4 5 0 1))
    (var 0 ⊗ (var 3 ⊗ one ⊖ var 5 ⊗ one) ⊖ var 1 ⊗ (var 2 ⊗ one ⊖ var 4 ⊗ one) ⊕ one ⊗ (var 2 ⊗ var 5 ⊖ var 4 ⊗ var 3))
    (p.x ∷ p.y ∷ q.x ∷ q.y ∷ r.x ∷ r.y ∷ []) refl

module _ (corners : List Point) where
  -- the edge from vertex i to vertex j
  abbrev pub area_by : ℕ → ℕ → ℤ
  area_by i j = swept_by (vertex corners i) (vertex corners j)

  pub area_odd : IsOdd area_by
  area_odd i j = swept_back (vertex corners i) (vertex corners j)

  -- triangles that run counterclockwise have an area that is not negative
  pub triangles_not_negative : (tris : List Tri) → ((t : ℕ) → t < length tris → IsCounterclockwiseTri corners (tri_at tris t))
      → pos 0 ≤ℤ sum_sides area_by tris
  triangles_not_negative [] left = omega (arith, ints)
  triangles_not_negative (t ∷ ts) left =
      let first = left 0 (omega arith) in
      let rest = triangles_not_negative ts (λ i h. left (suc i) (omega (arith, h))) in
      let is = swept_sides (vertex corners t.a) (vertex corners t.b) (vertex corners t.c) in
      positive_first _ _ _ is first rest
    where
      positive_first : (x y z : ℤ) → x ≡ y → pos 0 <ℤ y → pos 0 ≤ℤ z → pos 0 ≤ℤ (x +ℤ z)
      positive_first x y z is h k = omega (arith, ints)

  -- round a piece, edges sweep out its area
  area_along : (i : ℕ) (is : List ℕ) (l : ℕ)
      → sum_from area_by i (is ++ l ∷ []) ≡ swept (edges_along (vertex corners i) (piece_points corners is) (vertex corners l))
  area_along i [] l = refl
  area_along i (j ∷ is) l = ap (λ z. area_by i j +ℤ z) (area_along j is l)

  pub area_round : (piece : List ℕ) → sum_round area_by piece ≡ doubled_area (piece_points corners piece)
  area_round [] = refl
  area_round (i ∷ is) = area_along i is i
