-- Points by their names. This project's own.
use Rattle.std.specs.Prelude.{◌<◌, List, length, slice_index_or, pos}
use Rattle.plane.specs.Point.{Point}
use Rattle.exact_plane.specs.declared.turns.Spot.{Spot}
use Rattle.exact_plane.specs.declared.turns.Spot.TheVariants.{Corner, Goal, Start}

-- the point that a name stands for, among some corners, a start and a goal
abbrev pub point_named : List Point → Point → Point → Spot → Point
point_named corners start goal (Corner i) = slice_index_or corners i (record { x = pos 0; y = pos 0 })
point_named corners start goal Start = start
point_named corners start goal Goal = goal

-- the name stands for a point: a corner's number is below their count
abbrev pub IsNamed : List Point → Spot → Type 0
IsNamed corners (Corner i) = i < length corners
IsNamed corners Start = Unit {0}
IsNamed corners Goal = Unit {0}
