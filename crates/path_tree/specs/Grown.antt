-- Trees of paths: what is before each vertex on its path from a start, and a funnel for each triangle. Guibas, Hershberger,
-- Leven, Sharir and Tarjan 1987.
use Rattle.std.specs.Prelude.{◌≡◌, ◌≢◌, ℕ, ◌+◌, ◌<◌, ◌≤◌, List, length, slice_index_or, Option, Some, None}
use Rattle.plane.specs.Point.{Point, whole}
use Rattle.rings.specs.From.{IsPredecessor}
use Rattle.rings.specs.Ring.{vertex}
use Rattle.meshes.specs.Fits.{Fits, IsInTri}
use Rattle.meshes.specs.Side.{tri_at}
use Rattle.meshes.specs.declared.tri.Tri.{Tri}
use Rattle.exact_plane.specs.Spot.{point_named}
use Rattle.exact_plane.specs.declared.turns.Spot.{Spot}
use Rattle.exact_plane.specs.declared.turns.Spot.TheVariants.{Corner, Goal, Start}
use Rattle.path_tree.specs.Listed.{IsTriangleBeyond, IsFunnelAt, Listed}

-- a name for each vertex, or none, and a funnel for each triangle, or none
pub record NamedTree : Type 0 where
  pub before : List (Option Spot)
  pub funnels : List (Option Listed)

abbrev pub before_at : NamedTree → ℕ → Option Spot
before_at tree i = slice_index_or tree.before i None

abbrev pub funnel_at : NamedTree → ℕ → Option Listed
funnel_at tree k = slice_index_or tree.funnels k None

-- the name stands for the point: the start has its own name, and other points are named as corners
abbrev pub Names : List Point → Point → Spot → Point → Type 0
Names corners start Start x = x ≡ start
Names corners start (Corner i) x = (i < length corners) × (vertex corners i ≡ x) × (x ≢ start)
Names corners start Goal x = ⊥

-- what comes before t on the path from the start, by its name; none where t is the start
abbrev pub IsFromNamed : List Point → Point → Point → Option Spot → Type 0
IsFromNamed corners start t None = t ≡ start
IsFromNamed corners start t (Some name) = (x : Point) × Names corners start name x × IsPredecessor corners start t x

-- the list is the funnel of the start at a side of triangle k, over which the triangle is entered
pub record IsEntered (corners : List Point) (start : Point) (tris : List Tri) (k : ℕ) (f : Listed) : Type 0 where
  pub left : ℕ
  pub right : ℕ
  pub third : ℕ
  pub beyond : IsTriangleBeyond tris k left right third
  pub diagonals : ℕ
  pub few : diagonals + 3 ≤ length corners
  pub funnel : IsFunnelAt corners start left right diagonals f

-- triangle k has no funnel exactly where it is the home, and otherwise its own
abbrev pub KeepsFunnel : List Point → Point → List Tri → ℕ → ℕ → Option Listed → Type 0
KeepsFunnel corners start tris home k None = k ≡ home
KeepsFunnel corners start tris home k (Some f) = (k ≢ home) × IsEntered corners start tris k f

-- the tree is grown from a start in a home triangle: it has what is before each vertex on its path, and a funnel for each triangle
-- but the home, which alone has none
pub record IsGrownFrom (corners : List Point) (start : Point) (tris : List Tri) (tree : NamedTree) : Type 0 where
  pub vertices : length tree.before ≡ length corners
  pub parents : (i : ℕ) → i < length corners → IsFromNamed corners start (vertex corners i) (before_at tree i)
  pub triangles : length tree.funnels ≡ length tris
  pub home : ℕ
  pub in_list : home < length tris
  pub in_home : IsInTri corners (tri_at tris home) (whole start)
  pub funnels : (k : ℕ) → k < length tris → KeepsFunnel corners start tris home k (funnel_at tree k)

-- it is grown from some
pub record IsGrownTree (tree : NamedTree) : Type 0 where
  pub corners : List Point
  pub start : Point
  pub tris : List Tri
  pub fits : Fits corners tris
  pub grown : IsGrownFrom corners start tris tree

-- the name of a point to which the tree has a path: the start's, or a corner's
abbrev pub IsKept : NamedTree → Spot → Type 0
IsKept tree Start = Unit {0}
IsKept tree (Corner i) = i < length tree.before
IsKept tree Goal = ⊥

-- the point that such a name stands for
abbrev pub kept_point : List Point → Point → Spot → Point
kept_point corners start name = point_named corners start start name
