-- What a mesh that fits a ring says of its triangles, for a search among them.
use Rattle.std.proofs.Common.{refl, Some, None, subst, ℕ, ◌<◌, ◌≤◌, ◌↔◌, List, length, arith}
use Rattle.std.proofs.lemmas.Int.{ints}
use Rattle.plane.specs.Point.{IsPoint, Point, Triple, whole}
use Rattle.plane.specs.Triangle.{IsInTriangle}
use Rattle.rings.specs.Inside.{IsIn}
use Rattle.meshes.proofs.Sides.{piece_points_all, below_of_member, two_fewer}
use Rattle.meshes.specs.Fits.{Fits, IsInTri}
use Rattle.meshes.specs.Side.{tri_at}
use Rattle.meshes.specs.declared.tri.Tri.{Tri}
use Rattle.funnels.proofs.Chains.{source_in}
use Rattle.dual_tree.specs.Location.{IsCornered}

module _ (corners : List Point) (tris : List Tri) (fits : Fits corners tris) where
  -- the corners of a triangle are vertices, counterclockwise
  pub cornered : (k : ℕ) → k < length tris → IsCornered corners (tri_at tris k)
  cornered k below =
      let tri = fits.triangles k below in
      record {
        a = below_of_member (length corners) (tri_at tris k).a tri.has_a;
        b = below_of_member (length corners) (tri_at tris k).b tri.has_b;
        c = below_of_member (length corners) (tri_at tris k).c tri.has_c;
        counterclockwise = tri.counterclockwise;
      }

  -- a point is in the ring exactly where it is in a triangle
  pub covered : (p : Triple) → IsPoint p → IsIn corners p ↔ ((k : ℕ) × (k < length tris) × IsInTri corners (tri_at tris k) p)
  covered p at_p = subst (λ ring. IsIn ring p ↔ ((k : ℕ) × (k < length tris) × IsInTri corners (tri_at tris k) p)) (piece_points_all corners) (fits.covers p at_p)

  -- so it is not where none holds it
  pub not_in_ring_unless_held : (p : Point) (n : ℕ) → length tris ≤ n → ((k : ℕ) → k < n → ¬ IsInTri corners (tri_at tris k) (whole p))
      → ¬ IsIn corners (whole p)
  not_in_ring_unless_held p n all none inside =
      let at = (covered (whole p) (omega (arith, ints))).0 inside in
      none at.0 (omega (arith, at.1)) at.2

-- all as rules
pub ruleset places = (cornered, source_in, two_fewer)
