-- Pieces of a polygon that are polygons themselves. No public clause cites this module.
use Rattle.std.specs.Prelude.{ℕ, ◌≤◌, List, length}
use Rattle.plane.specs.Point.{Point}
use Rattle.rings.specs.Simple.{IsSimple}
use Rattle.rings.specs.Winding.{RunsCounterclockwise}
use Rattle.meshes.specs.Fits.{piece_points}

-- at least three vertices by their numbers: a simple ring that runs counterclockwise
pub record IsPolygonPiece (corners : List Point) (piece : List ℕ) : Type 0 where
  pub some : 3 ≤ length piece
  pub simple : IsSimple (piece_points corners piece)
  pub counterclockwise : RunsCounterclockwise (piece_points corners piece)
