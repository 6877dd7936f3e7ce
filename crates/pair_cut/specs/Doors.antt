-- How far a row has grown outward from the home triangle: what comes before the vertices there, and the tangents. No public clause
-- cites this module. This project's own.
use Rattle.std.specs.List.{All}
use Rattle.std.specs.Prelude.{◌≡◌, ◌⊎◌, ℕ, ◌<◌, List, length, slice_index, slice_index_or}
use Rattle.plane.specs.Point.{Point}
use Rattle.rings.specs.Chain.{point_at}
use Rattle.rings.specs.Ring.{vertex}
use Rattle.meshes.specs.Side.{tri_at, HasCorner}
use Rattle.meshes.specs.declared.tri.Tri.{Tri}
use Rattle.tri_mesh.specs.Outward.{at_place}
use Rattle.tri_mesh.specs.declared.outward.Outward.{Outward}
use Rattle.path_tree.specs.Entered.{IsFunnelTo, third_of}
use Rattle.path_tree.specs.Listed.{Listed, listed_points}
use Rattle.pair_cut.specs.Climbs.{IsTangent, IsVertexAt}
use Rattle.pair_cut.specs.Rows.{IsNumberBefore}
use Rattle.pair_cut.specs.declared.climb.Tangent.{Tangent}

-- j is a corner of the triangle at an earlier place
abbrev pub IsOnWay : List Tri → List Outward → ℕ → ℕ → Type 0
IsOnWay tris order p j = (q : ℕ) × (q < p) × HasCorner (tri_at tris (at_place order q)) j

-- the number is that of such a corner, or of the source
abbrev pub IsSeen : List Point → List Tri → List Outward → ℕ → ℕ → Type 0
IsSeen corners tris order p k = (k ≡ length corners) ⊎ IsOnWay tris order p k

-- the funnel of vertex i at the door of the triangle at a place, over numbers that stand for vertices on the way there
pub record HasFunnel (corners : List Point) (i : ℕ) (tris : List Tri) (order : List Outward) (p : ℕ) (f : Listed) : Type 0 where
  pub funnel : IsFunnelTo corners (vertex corners i) tris order p f
  pub seen : All (IsSeen corners tris order p) f.list

-- the vertex is the apex of the door of the triangle at a place
pub record IsApex (corners : List Point) (i : ℕ) (tris : List Tri) (order : List Outward) (p apex : ℕ) : Type 0 where
  pub f : Listed
  pub has : HasFunnel corners i tris order p f
  pub is : IsVertexAt corners apex (point_at (listed_points corners (vertex corners i) f.list) f.apex)

-- so is the third corner of that triangle reached
pub record IsTangentTo (corners : List Point) (i : ℕ) (tris : List Tri) (order : List Outward) (p : ℕ) (t : Tangent) : Type 0 where
  pub f : Listed
  pub has : HasFunnel corners i tris order p f
  pub tangent : IsTangent corners (listed_points corners (vertex corners i) f.list) f.apex (vertex corners (third_of tris order p)) t

-- what is at a place
abbrev pub tangent_at : List Tangent → ℕ → Tangent
tangent_at tangents p = slice_index_or tangents p (record { near = 0; right = 0; left = 0 })

-- the row of vertex i has grown over the triangles at the first places, so many of them
pub record IsGrownTo (corners : List Point) (i : ℕ) (tris : List Tri) (order : List Outward) (count : ℕ) (before : List ℕ)
    (tangents : List Tangent) : Type 0 where
  pub vertices : length before ≡ length corners
  pub told : (j : ℕ) → IsOnWay tris order count j → IsNumberBefore corners i j (slice_index before j)
  pub places : length tangents ≡ length order
  pub tangents_told : (q : ℕ) → 0 < q → q < count → IsTangentTo corners i tris order q (tangent_at tangents q)
