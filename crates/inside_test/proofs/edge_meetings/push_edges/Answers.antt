use Rattle.std.proofs.Common.{arith}
use Rattle.rings.specs.Ring.{origin}
use Rattle.inside_test.proofs.PointLists.{lists_past}
use Rattle.inside_test.proofs.edge_meetings.push_edges.Goals as goal
use Rattle.inside_test.specs.Breakpoints.{breakpoint_points}

pub loop-first-preserved : goal.loop-first-preserved
loop-first-preserved g c =
    let before = c.loop-first.invariant in
    let around = c.of-around.ensures.within in
    let apart = c.are_apart.ensures.apart c.if-not-are_apart.false c.args.a.now c.args.b.now (around 0 (omega arith) origin) (around 1 (omega arith) origin) in
    record {
      points = lists_past c.args.ring.now.corners c.args.a.now c.args.b.now c.loop-first.first c.min-end.result (breakpoint_points c.loop-first.points.items)
          before.points apart;
      within = omega arith;
      few = omega arith;
      steps = omega (arith, c.are_apart.ensures.steps);
    }
