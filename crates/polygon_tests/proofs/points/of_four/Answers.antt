use Rattle.std.proofs.Common.{rules}
use Rattle.exact_plane.proofs.Directions.{positive_of_left}
use Rattle.polygon_tests.proofs.points.of_four.Goals as goal

pub in_triangle-requires : goal.in_triangle-requires
in_triangle-requires g c = search (rules, positive_of_left)
