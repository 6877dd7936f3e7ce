-- A point strictly inside a triangle of a mesh is in no other one.
use Rattle.std.proofs.Common.{◌≡◌, ℕ, ◌<◌, List, length, arith}
use Rattle.plane.proofs.Nearness.{toward, toward_is_point}
use Rattle.plane.specs.Point.{IsPoint, Point, Triple}
use Rattle.meshes.proofs.Parts.{inside_one, inside_sides, left_of_all_eventually, left_of_sides, mean, mean_inside, mean_is_point, paved, sides, toward_inside}
use Rattle.meshes.specs.Fits.{Fits, IsInTri, IsStrictlyInTri}
use Rattle.meshes.specs.Side.{tri_at}
use Rattle.meshes.specs.declared.tri.Tri.{Tri}

module _ (corners : List Point) (tris : List Tri) (fits : Fits corners tris) (p : Triple) (at_p : IsPoint p) where
  -- else the points near it, toward the inside of the other one, are strictly inside both
  not_two : (k l : ℕ) → k < length tris → l < length tris → IsStrictlyInTri corners (tri_at tris k) p → IsInTri corners (tri_at tris l) p
      → ¬ (k ≡ l) → ⊥
  not_two k l in_k in_l strictly held differ =
      let left = (fits.triangles l in_l).counterclockwise in
      let g = mean corners (tri_at tris l) in
      let at_g = mean_is_point corners (tri_at tris l) left in
      let near = left_of_all_eventually p g (sides corners (tri_at tris k)) (left_of_sides corners (tri_at tris k) p strictly) in
      let z = toward p g near.start in
      inside_one corners _ tris (paved fits) k l in_k in_l differ z (toward_is_point p g at_p at_g near.start)
      (inside_sides corners (tri_at tris k) z (near.from_start near.start (omega arith)))
      (toward_inside corners (tri_at tris l) left p g held (mean_inside corners (tri_at tris l) left) near.start)

  -- so it is the only one that holds the point
  pub strictly_one : (k l : ℕ) → k < length tris → l < length tris → IsStrictlyInTri corners (tri_at tris k) p → IsInTri corners (tri_at tris l) p
      → l < k → ⊥
  strictly_one k l in_k in_l strictly held less = not_two k l in_k in_l strictly held (λ same. omega (arith, same))
