use Rattle.std.proofs.Common.{◌≡◌, map, take}
use Rattle.polygon_tests.proofs.ring_lists.points_of.Given as goal
use Rattle.polygon_tests.specs.Rows.{point_with}

abbrev pub invariant-loop-x : goal.invariant-loop-x
invariant-loop-x l = l.points.items ≡ map point_with (take l.x-index l.list)
