-- The comb: a strip of height 2 that goes up and down in zigzag, a tooth at a time. This project's own.
use Rattle.std.specs.List.{range_with_len}
use Rattle.std.specs.Prelude.{ℕ, ◌+◌, ◌*◌, ◌%◌, pos, List, ◌++◌, map, reverse}
use Rattle.plane.specs.Point.{Point}

-- the most teeth, with which a comb has 4,096 vertices
abbrev pub most_teeth : ℕ
most_teeth = 2047

-- the point y above the lower row, at its place i
abbrev pub above : ℕ → ℕ → Point
above i y = record { x = pos (4 * i); y = pos (6 * (i % 2) + y) }

abbrev pub lower : ℕ → Point
lower i = above i 0

abbrev pub upper : ℕ → Point
upper i = above i 2

-- the lower row from left to right, and the upper row back
abbrev pub comb_list : ℕ → List Point
comb_list k = map lower (range_with_len 0 (k + 1)) ++ reverse (map upper (range_with_len 0 (k + 1)))

-- the ends of the path that is asked for: the middle of the left end of the strip, and that of its right end
abbrev pub comb_start : Point
comb_start = above 0 1

abbrev pub comb_goal : ℕ → Point
comb_goal k = above k 1
