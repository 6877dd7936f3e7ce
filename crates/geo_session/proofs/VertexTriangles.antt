-- Triangles with a vertex for a corner, and paths along the sleeve between two of them.
use Rattle.std.proofs.Common.{ℕ, ◌<◌, List, length}
use Rattle.plane.specs.Point.{Point}
use Rattle.rings.specs.Chain.{IsPath}
use Rattle.rings.specs.Ring.{vertex}
use Rattle.meshes.specs.Fits.{Fits}
use Rattle.meshes.specs.Side.{IsWalkBetween, tri_at, HasCorner}
use Rattle.meshes.specs.Sleeve.{IsOneOf, Sleeve}
use Rattle.meshes.specs.declared.tri.Tri.{Tri}
use Rattle.funnels.proofs.Bends.{corner_in}
use Rattle.geo_session.specs.Sleeves.{IsPathAlong}

module _ (corners : List Point) (tris : List Tri) (fits : Fits corners tris) where
  -- the path between two vertices is along the sleeve between triangles with them
  pub path_at : (sleeve : Sleeve) (from to i j : ℕ) (chain : List Point) → IsOneOf tris sleeve → IsWalkBetween tris from to sleeve.walk
      → from < length tris → to < length tris → HasCorner (tri_at tris from) i → HasCorner (tri_at tris to) j
      → IsPath corners (vertex corners i) (vertex corners j) chain → IsPathAlong corners tris sleeve chain
  path_at sleeve from to i j chain of_mesh between from_in to_in at_i at_j is_path = record {
    s = vertex corners i;
    t = vertex corners j;
    leads = record {
      of_mesh = of_mesh;
      start = rw between.first (corner_in corners tris fits from from_in i at_i);
      goal = rw between.last (corner_in corners tris fits to to_in j at_j);
    };
    is_path = is_path;
  }
