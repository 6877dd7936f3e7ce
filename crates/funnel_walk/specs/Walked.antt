-- How far a walk has come: the names that were given, and those of the funnel. This project's own.
use Rattle.std.specs.List.{All}
use Rattle.std.specs.Prelude.{◌≡◌, ◌≢◌, ℕ, ◌+◌, ◌<◌, List, [], ◌∷◌, ◌++◌, drop, length, slice_index_or}
use Rattle.plane.specs.Point.{Point, whole}
use Rattle.rings.specs.Chain.{IsTaut}
use Rattle.meshes.specs.Fits.{Fits, IsInTri}
use Rattle.meshes.specs.Side.{tri_at}
use Rattle.meshes.specs.Sleeve.{IsOneOf, Sleeve, diagonal_at}
use Rattle.meshes.specs.declared.tri.Tri.{Tri}
use Rattle.funnels.specs.OpenFunnel.{IsOpenFunnel}
use Rattle.exact_plane.specs.declared.turns.Spot.{Spot}
use Rattle.exact_plane.specs.declared.turns.Spot.TheVariants.{Goal, Start}
use Rattle.exact_plane.specs.Names.{AppendsNames, AreNamed, name_at, named_points}
use Rattle.exact_plane.specs.Spot.{point_named}
use Rattle.funnel_walk.specs.declared.funnel.Funnel.{Funnel}

-- none of the names is the goal's
abbrev pub HaveNoGoal : List Spot → Type 0
HaveNoGoal names = All (λ name. name ≢ Goal) names

-- the names stand for the funnel at the diagonal from vertex i to vertex j, with the apex at place a, and those that were given for
-- the points before it, from the start on
pub record IsWalked (corners : List Point) (start goal : Point) (given names : List Spot) (a i j : ℕ) : Type 0 where
  pub funnel : IsOpenFunnel corners (named_points (point_named corners start goal) given)
      (named_points (point_named corners start goal) names) a i j
  pub given_named : AreNamed corners given
  pub named : AreNamed corners names
  pub given_no_goal : HaveNoGoal given
  pub no_goal : HaveNoGoal names
  pub starts : name_at (given ++ name_at names a ∷ []) 0 ≡ Start

-- the walk has come to the funnel, and the names from the first one that was given for it on are those before the apex
abbrev pub IsWalkedTo : List Point → Point → Point → Sleeve → List Spot → Funnel → Type 0
IsWalkedTo corners start goal sleeve out funnel = IsWalked corners start goal (drop funnel.given out) funnel.names.items funnel.apex
    (diagonal_at sleeve funnel.at).left (diagonal_at sleeve funnel.at).right

-- triangles that fit the corners have the sleeve
pub record IsSleeveIn (corners : List Point) (sleeve : Sleeve) : Type 0 where
  pub tris : List Tri
  pub fits : Fits corners tris
  pub of_mesh : IsOneOf tris sleeve

-- so far a walk has come behind a diagonal of a sleeve, and the triangle there has the goal
pub record HasArrived (corners : List Point) (start goal : Point) (given names : List Spot) (a : ℕ) : Type 0 where
  pub tris : List Tri
  pub fits : Fits corners tris
  pub sleeve : Sleeve
  pub of_mesh : IsOneOf tris sleeve
  pub i : ℕ
  pub below : i < length sleeve.diagonals
  pub in_goal : IsInTri corners (tri_at tris (slice_index_or sleeve.walk (i + 1) 0)) (whole goal)
  pub walked : IsWalked corners start goal given names a (diagonal_at sleeve i).left (diagonal_at sleeve i).right

-- the names of a taut chain were appended, and the goal's own name is the last where it is not the start's point
pub record AppendsTaut (corners : List Point) (start goal : Point) (out out' : List Spot) : Type 0 where
  pub names : AppendsNames corners start goal (IsTaut corners start goal) out out'
  pub last : start ≢ goal → name_at (Start ∷ names.others) (length names.others) ≡ Goal
