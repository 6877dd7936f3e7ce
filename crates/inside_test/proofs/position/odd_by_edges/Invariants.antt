use Rattle.std.proofs.Common.{◌≡◌, ◌+◌, ◌*◌, ◌-◌, ◌≤◌}
use Rattle.rings.specs.Ring.{vertex}
use Rattle.inside_test.proofs.position.odd_by_edges.Given as goal
use Rattle.inside_test.specs.Meeting.{IsVertexBeside}
use Rattle.inside_test.specs.Odd.{IsOddOver}

abbrev pub invariant-loop-i : goal.invariant-loop-i
invariant-loop-i g l = IsOddOver l.ring.corners l.first l.i l.p l.is_odd
    × (l.a.at ≡ vertex l.ring.corners l.i)
    × IsVertexBeside l.a l.p
    × (l.steps ≤ l.fn.steps + (1088 * (l.i - l.first) + 64))
