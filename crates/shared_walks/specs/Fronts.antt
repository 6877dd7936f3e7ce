-- How far a walk from a point has come, as it is kept. No public clause cites this module.
use Rattle.std.specs.Prelude.{◌≡◌, ◌+◌, ◌<◌, ◌≤◌, List, length, vec_capacity}
use Rattle.plane.specs.Point.{Point}
use Rattle.meshes.specs.Sleeve.{Sleeve, diagonal_at}
use Rattle.funnel_walk.specs.Walked.{IsWalked}
use Rattle.shared_walks.specs.declared.front.Front.{Front}

-- its names stand for the funnel at its diagonal, they are few, and there is room for those of any way in the ring
pub record IsFront (corners : List Point) (start : Point) (front : Front) : Type 0 where
  pub walked : IsWalked corners start start front.behind.items front.funnel.names.items front.funnel.apex front.left front.right
  pub given : front.funnel.given ≡ 0
  pub few : length front.behind.items + length front.funnel.names.items ≤ front.funnel.at + 3
  pub near : front.funnel.at + 4 ≤ length corners
  pub room : front.funnel.names.capacity ≡ length corners
  pub behind_room : length corners ≤ vec_capacity front.behind

-- the sleeve goes through its diagonal
pub record GoesThrough (sleeve : Sleeve) (front : Front) : Type 0 where
  pub within : front.funnel.at < length sleeve.diagonals
  pub left : front.left ≡ (diagonal_at sleeve front.funnel.at).left
  pub right : front.right ≡ (diagonal_at sleeve front.funnel.at).right
