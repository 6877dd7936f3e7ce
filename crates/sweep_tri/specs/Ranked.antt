-- Ranks of the corners of a polygon. No public clause cites this module.
use Rattle.std.specs.Prelude.{ℕ, ◌≤◌, List, length}
use Rattle.plane.specs.Point.{Point}
use Rattle.rings.specs.Events.{AreEvents}

-- three corners or more, in lexicographic order by their ranks
pub record IsRanked (corners : List Point) (ranks : List ℕ) : Type 0 where
  pub some : 3 ≤ length corners
  pub order : List ℕ
  pub events : AreEvents corners order ranks
