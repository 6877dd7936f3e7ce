-- A ring that is kept counterclockwise, and the list that it was made of. This project's own.
use Rattle.std.specs.Prelude.{ℕ, ◌-◌, ◌%◌, Bool, if◌then◌else◌, List, length}
use Rattle.plane.specs.Point.{Point}
use Rattle.rings.specs.Orientation.{is_clockwise, turned_round}

-- the vertices as they are kept, and whether the given list was turned round for that
pub record Oriented : Type 0 where
  pub corners : List Point
  pub is_turned : Bool

-- what is kept of a list: the list itself, or where it runs clockwise the list turned round
abbrev pub oriented : List Point → Oriented
oriented points = record {
  corners = if is_clockwise points then turned_round points else points;
  is_turned = is_clockwise points;
}

-- the given list
abbrev pub given_of : Oriented → List Point
given_of ring = if ring.is_turned then turned_round ring.corners else ring.corners

-- the number that vertex i has in the given list
abbrev pub given_index : Oriented → ℕ → ℕ
given_index ring i = if ring.is_turned then (length ring.corners - i) % length ring.corners else i

-- the number that edge i has in the given list
abbrev pub given_edge : Oriented → ℕ → ℕ
given_edge ring i = if ring.is_turned then length ring.corners - 1 - i else i
