use Rattle.std.proofs.Common.{◌+◌, ◌*◌, ◌≤◌, ◌-◌, length}
use Rattle.plane.specs.Point.{whole}
use Rattle.inside_test.proofs.edge_meetings.push_edges.Given as goal
use Rattle.inside_test.specs.Breakpoints.{ListsMeetings, breakpoint_points}

abbrev pub invariant-loop-first : goal.invariant-loop-first
invariant-loop-first g l = record {
  points : ListsMeetings l.ring.corners l.first (whole l.a) (whole l.b) (breakpoint_points l.points.items);
  within : l.first ≤ length l.ring.corners;
  few : length l.points.items ≤ length l.fn.points.items + 2 * l.first;
  steps : l.steps ≤ l.fn.steps + (1179 * l.first + 256);
}

abbrev pub decreases-loop-first : goal.decreases-loop-first
decreases-loop-first g l = l.n - l.first
