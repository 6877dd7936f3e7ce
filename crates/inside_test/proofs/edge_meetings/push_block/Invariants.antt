use Rattle.std.proofs.Common.{◌≡◌, ◌+◌, ◌*◌, ◌-◌, ◌≤◌, length}
use Rattle.plane.specs.Point.{whole}
use Rattle.rings.specs.Ring.{vertex}
use Rattle.inside_test.proofs.edge_meetings.push_block.Given as goal
use Rattle.inside_test.specs.Breakpoints.{ListsMeetings, breakpoint_points}

abbrev pub invariant-loop-i : goal.invariant-loop-i
invariant-loop-i g l = record {
  points : ListsMeetings l.ring.corners l.i (whole l.a) (whole l.b) (breakpoint_points l.points.items);
  here : l.c ≡ vertex l.ring.corners l.i;
  few : length l.points.items ≤ length l.fn.points.items + 2 * (l.i - l.fn.edges.start);
  steps : l.steps ≤ l.fn.steps + 155 * (l.i - l.fn.edges.start);
}
