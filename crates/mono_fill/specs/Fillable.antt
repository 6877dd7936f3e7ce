-- What a filling asks of a piece. No public clause cites this module. This project's own.
use Rattle.std.specs.List.{All}
use Rattle.std.specs.Prelude.{ℕ, ◌<◌, ◌≤◌, List, length}
use Rattle.plane.specs.Point.{Point}
use Rattle.rings.specs.Orientation.{IsCounterclockwise}
use Rattle.rings.specs.Simple.{IsSimple}
use Rattle.meshes.specs.Fits.{piece_points}
use Rattle.mono_fill.specs.Monotone.{AreRanks, IsMonotone}

-- a monotone piece of a polygon, with ranks of the corners
pub record IsFillable (corners : List Point) (ranks piece : List ℕ) : Type 0 where
  pub ranked : AreRanks corners ranks
  pub some : 3 ≤ length piece
  pub numbers : All (λ i. i < length corners) piece
  pub simple : IsSimple (piece_points corners piece)
  pub counterclockwise : IsCounterclockwise (piece_points corners piece)
  pub monotone : IsMonotone corners piece
