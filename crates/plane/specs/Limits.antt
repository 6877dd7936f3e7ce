-- The limits in numbers: how much is taken from outside. This project's own.
use Rattle.std.specs.Prelude.{ℕ}

-- the greatest size of a coordinate, which is 2 ^ 23 - 1
abbrev pub greatest_coordinate : ℕ
greatest_coordinate = 8388607

-- the most vertices of a polygon, which is 2 ^ 14
abbrev pub most_corners : ℕ
most_corners = 16384

-- the most points of a chain that is to be judged, which is 2 ^ 14 as well
abbrev pub longest_chain : ℕ
longest_chain = 16384

-- the most points of a relative hull
abbrev pub most_hull_points : ℕ
most_hull_points = 64

-- the most bytes of a script, which is 2 ^ 23
abbrev pub most_script_bytes : ℕ
most_script_bytes = 8388608
