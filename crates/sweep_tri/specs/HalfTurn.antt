-- The half turn of the plane round the origin, which takes each point to the opposite one. As in the textbooks.
use Rattle.std.specs.Prelude.{neg_ℤ, List, map}
use Rattle.plane.specs.Point.{Point}

abbrev pub half_turned : Point → Point
half_turned p = record { x = neg_ℤ p.x; y = neg_ℤ p.y }

-- all points of a list
abbrev pub all_half_turned : List Point → List Point
all_half_turned points = map half_turned points
