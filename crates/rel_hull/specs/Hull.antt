-- The sides of the relative hull of some points in a polygon. This project's own, after Toussaint 1986.
use Rattle.std.specs.Prelude.{◌≢◌, ℕ, ◌<◌, List, length}
use Rattle.plane.specs.Point.{Point}
use Rattle.rings.specs.Chain.{IsPath, point_at}
use Rattle.exact_plane.specs.declared.direction.Direction.{Direction}
use Rattle.exact_plane.specs.declared.direction.Direction.TheVariants.{Left}
use Rattle.hulls.specs.Inner.{IsInnerPoint}
use Rattle.rel_hull.specs.PathTurn.{IsPathTurn}

-- the paths from a to b and from a to c turn against each other in this way
pub record IsTurnBetween (ring : List Point) (a b c : Point) (turn : Direction) : Type 0 where
  pub first : List Point
  pub second : List Point
  pub is_first : IsPath ring a b first
  pub is_second : IsPath ring a c second
  pub turns : IsPathTurn first second turn

-- a side goes from point s to point t: all others that aren't inner are to the left of the path
pub record IsSide (ring points : List Point) (s t : ℕ) : Type 0 where
  pub s_in_list : s < length points
  pub t_in_list : t < length points
  pub different : s ≢ t
  pub s_outer : ¬ IsInnerPoint ring points s
  pub t_outer : ¬ IsInnerPoint ring points t
  pub left : (u : ℕ) → u < length points → u ≢ s → u ≢ t → ¬ IsInnerPoint ring points u
      → IsTurnBetween ring (point_at points s) (point_at points t) (point_at points u) Left
