-- Sleeves between the triangles of two points, and paths along them. No public clause cites this module.
use Rattle.std.specs.Prelude.{ℕ, ◌-◌, List, length, slice_index_or}
use Rattle.plane.specs.Point.{Point, whole}
use Rattle.rings.specs.Chain.{IsPath}
use Rattle.meshes.specs.Fits.{IsInTri}
use Rattle.meshes.specs.Side.{tri_at}
use Rattle.meshes.specs.Sleeve.{IsOneOf, Sleeve}
use Rattle.meshes.specs.declared.tri.Tri.{Tri}
use Rattle.dual_tree.specs.Location.{IsLeastHolding}

-- the sleeve leads from a triangle that holds s to one that holds t
pub record Leads (corners : List Point) (tris : List Tri) (sleeve : Sleeve) (s t : Point) : Type 0 where
  pub of_mesh : IsOneOf tris sleeve
  pub start : IsInTri corners (tri_at tris (slice_index_or sleeve.walk 0 0)) (whole s)
  pub goal : IsInTri corners (tri_at tris (slice_index_or sleeve.walk (length sleeve.walk - 1) 0)) (whole t)

-- the chain is the path between two points that the sleeve leads from and to
pub record IsPathAlong (corners : List Point) (tris : List Tri) (sleeve : Sleeve) (chain : List Point) : Type 0 where
  pub s : Point
  pub t : Point
  pub leads : Leads corners tris sleeve s t
  pub is_path : IsPath corners s t chain

-- the chain is the path from a point in triangle `from` to a point in triangle `to`
pub record IsPathBetween (corners : List Point) (tris : List Tri) (from to : ℕ) (chain : List Point) : Type 0 where
  pub s : Point
  pub t : Point
  pub start : IsLeastHolding corners tris (whole s) from
  pub goal : IsLeastHolding corners tris (whole t) to
  pub is_path : IsPath corners s t chain
