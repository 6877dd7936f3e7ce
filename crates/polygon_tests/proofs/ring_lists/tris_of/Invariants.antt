use Rattle.std.proofs.Common.{◌≡◌, map, take}
use Rattle.polygon_tests.proofs.ring_lists.tris_of.Given as goal
use Rattle.polygon_tests.specs.Rows.{tri_of}

abbrev pub invariant-loop-a : goal.invariant-loop-a
invariant-loop-a l = l.list.items ≡ map tri_of (take l.a-index l.tris)
