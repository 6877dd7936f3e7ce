-- What a hull answers: its sides, each with what is told of its path. This project's own, after Toussaint 1986.
use Rattle.std.specs.List.{Contains}
use Rattle.std.specs.Prelude.{◌≡◌, ◌≢◌, ◌↔◌, ℕ, ◌<◌, List, [], length, map, slice_index, slice_index_or}
use Rattle.plane.specs.Pairs.{pair_at}
use Rattle.plane.specs.Point.{Point}
use Rattle.rings.specs.Chain.{point_at}
use Rattle.geo_text.specs.declared.version.Version.{Version}
use Rattle.rel_hull.specs.Table.{AreSides}
use Rattle.geo_session.specs.Shown.{IsShownPath}
use Rattle.geo_reply.specs.declared.reply.Side.{Side}

-- the numbers of the points that no earlier one is equal to, in order
pub record AreFirsts (points : List Point) (numbers : List ℕ) : Type 0 where
  pub rising : (k l : ℕ) → k < l → l < length numbers → slice_index numbers k < slice_index numbers l
  pub first : (i : ℕ) → Contains numbers i ↔ ((i < length points) × ((j : ℕ) → j < i → point_at points j ≢ point_at points i))

-- the side goes from point i to point j, with what is told of the path between them
pub record IsSideFrom (version : Version) (ring points : List Point) (i j : ℕ) (side : Side) : Type 0 where
  pub start : side.start ≡ i
  pub end : side.end ≡ j
  pub shown : IsShownPath version ring (point_at points i) (point_at points j) side.path

-- side k of a list
abbrev pub hull_side_at : List Side → ℕ → Side
hull_side_at sides k = slice_index_or sides k (record { start = 0; end = 0; path = [] })

-- the sides of the points' relative hull, a point that is given again counting once, under its first number
pub record AreSidesOf (version : Version) (ring points : List Point) (told : List Side) : Type 0 where
  pub numbers : List ℕ
  pub firsts : AreFirsts points numbers
  pub sides : List (ℕ × ℕ)
  pub are_sides : AreSides ring (map (point_at points) numbers) sides
  pub one_each : length told ≡ length sides
  pub each : (k : ℕ) → k < length sides
      → IsSideFrom version ring points (slice_index numbers (pair_at sides k).0) (slice_index numbers (pair_at sides k).1) (hull_side_at told k)
