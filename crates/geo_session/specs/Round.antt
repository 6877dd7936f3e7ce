-- What a round answers. This project's own, after Toussaint 1986.
use Rattle.std.specs.Prelude.{◌≡◌, ◌≤◌, ℕ, List, length, map, slice_index}
use Rattle.plane.specs.Point.{Point}
use Rattle.rings.specs.Chain.{point_at}
use Rattle.rel_hull.specs.Round.{IsRound}
use Rattle.geo_session.specs.Hull.{AreFirsts}

-- the numbers are the round of the points, a point that is given again counting once, under its first number
pub record AreRound (ring points : List Point) (round : List ℕ) : Type 0 where
  pub some : 1 ≤ length points
  pub numbers : List ℕ
  pub firsts : AreFirsts points numbers
  pub places : List ℕ
  pub is_round : IsRound ring (map (point_at points) numbers) places
  pub are : round ≡ map (slice_index numbers) places
