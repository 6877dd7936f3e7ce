-- How far a tree of paths has grown outward from the triangle of its start. This project's own.
use Rattle.std.specs.Prelude.{◌≡◌, ℕ, ◌<◌, ◌≤◌, List, length, slice_index, vec_capacity, Option, Some, None}
use Rattle.plane.specs.Point.{Point, whole}
use Rattle.rings.specs.Ring.{vertex}
use Rattle.meshes.specs.Side.{tri_at, HasCorner}
use Rattle.meshes.specs.declared.tri.Tri.{Tri}
use Rattle.tri_mesh.specs.Outward.{at_place}
use Rattle.tri_mesh.specs.declared.outward.Outward.{Outward}
use Rattle.funnels.specs.Funnel.{IsReachedFrom}
use Rattle.path_tree.specs.Entered.{IsFromStart, IsFunnelTo, third_of}
use Rattle.path_tree.specs.Listed.{Listed, listed_points}
use Rattle.path_tree.specs.Grown.{IsFromNamed, NamedTree, before_at, funnel_at}
use Rattle.path_tree.specs.declared.growth.Growth.{Growth}

-- the home has no funnel, and the triangle at a later place has that one
abbrev pub KeepsFunnelTo : List Point → Point → List Tri → List Outward → ℕ → Option Listed → Type 0
KeepsFunnelTo corners start tris order p None = p ≡ 0
KeepsFunnelTo corners start tris order p (Some f) = (0 < p) × IsFunnelTo corners start tris order p f

-- the tree has grown over the triangles at the first places, so many of them: it has their funnels, and what is before their corners
pub record IsGrownOver (corners : List Point) (start : Point) (tris : List Tri) (order : List Outward) (count : ℕ) (tree : NamedTree) : Type 0 where
  pub vertices : length tree.before ≡ length corners
  pub parents : (p i : ℕ) → p < count → HasCorner (tri_at tris (at_place order p)) i
      → IsFromNamed corners start (vertex corners i) (before_at tree i)
  pub triangles : length tree.funnels ≡ length tris
  pub funnels : (p : ℕ) → p < count → KeepsFunnelTo corners start tris order p (funnel_at tree (at_place order p))

-- the third corner of the triangle at a place is reached from this place of its funnel
abbrev pub IsThirdFrom : List Point → Point → List Tri → List Outward → ℕ → Listed → ℕ → Type 0
IsThirdFrom corners start tris order p f place =
    IsReachedFrom (listed_points corners start f.list) f.apex place (whole (vertex corners (third_of tris order p)))

-- for each of the triangles at the first places, so many of them, this is the place of its funnel from which its third corner is reached
pub record AreThirdPlaces (corners : List Point) (start : Point) (tris : List Tri) (order : List Outward) (count : ℕ) (tree : NamedTree)
    (places : List ℕ) : Type 0 where
  pub each : length places ≡ count
  pub reached : (p : ℕ) → p < count → (f : Listed) → funnel_at tree (at_place order p) ≡ Some f
      → IsThirdFrom corners start tris order p f (slice_index places p)

-- the tree as far as it has grown
abbrev pub tree_so_far : Growth → NamedTree
tree_so_far g = record { before = g.before.items; funnels = g.funnels.items }

-- it has grown over these triangles and has these places, with room for those of all
pub record HasGrown (corners : List Point) (start : Point) (tris : List Tri) (order : List Outward) (count : ℕ) (g : Growth) : Type 0 where
  pub over : IsGrownOver corners start tris order count (tree_so_far g)
  pub thirds : AreThirdPlaces corners start tris order count (tree_so_far g) g.thirds.items
  pub room : length order ≤ vec_capacity g.thirds

-- it has grown over those before place p, where there is one more
pub record CanGoOn (corners : List Point) (start : Point) (tris : List Tri) (order : List Outward) (p : ℕ) (g : Growth) : Type 0 where
  pub from : IsFromStart corners start tris order
  pub later : 0 < p
  pub within : p < length order
  pub grown : HasGrown corners start tris order p g
