-- The triangle of a mesh that holds a point. This project's own.
use Rattle.std.specs.Prelude.{ℕ, ◌<◌, List, length}
use Rattle.plane.specs.Point.{Point, Triple, whole}
use Rattle.plane.specs.Turn.{IsLeft}
use Rattle.rings.specs.Ring.{vertex}
use Rattle.meshes.specs.Fits.{IsInTri}
use Rattle.meshes.specs.Side.{tri_at}
use Rattle.meshes.specs.declared.tri.Tri.{Tri}

-- the closed triangle k holds the point, and none before it does
pub record IsLeastHolding (corners : List Point) (tris : List Tri) (p : Triple) (k : ℕ) : Type 0 where
  pub in_list : k < length tris
  pub holds : IsInTri corners (tri_at tris k) p
  pub least : (l : ℕ) → l < k → ¬ IsInTri corners (tri_at tris l) p

-- the corners of the triangle are vertices, counterclockwise
pub record IsCornered (corners : List Point) (t : Tri) : Type 0 where
  pub a : t.a < length corners
  pub b : t.b < length corners
  pub c : t.c < length corners
  pub counterclockwise : IsLeft (whole (vertex corners t.a)) (whole (vertex corners t.b)) (whole (vertex corners t.c))
