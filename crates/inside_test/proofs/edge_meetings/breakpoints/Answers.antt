use Rattle.std.proofs.Common.{ap}
use Rattle.inside_test.proofs.PointLists.{lists_ends}
use Rattle.inside_test.proofs.edge_meetings.breakpoints.Goals as goal
use Rattle.inside_test.specs.Breakpoints.{breakpoint_points}

pub push_edges-requires : goal.push_edges-requires
push_edges-requires g c =
    lists_ends c.args.ring.now.corners c.args.a.now c.args.b.now _ _ _ _ _ (ap breakpoint_points c.in_ok-points.ensures.items) c.of_pt.ensures.point
    c.of_pt-2.ensures.point c.in_ok-push.ensures.ok c.in_ok-push-2.ensures.ok
