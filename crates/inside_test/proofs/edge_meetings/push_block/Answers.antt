use Rattle.std.proofs.Common.{◌≡◌, subst, arith}
use Rattle.plane.specs.Point.{whole}
use Rattle.inside_test.proofs.PointLists.{lists_more}
use Rattle.inside_test.proofs.edge_meetings.push_block.Goals as goal
use Rattle.inside_test.specs.Breakpoints.{ListsMeetings, breakpoint_points}

pub loop-i-init : goal.loop-i-init
loop-i-init g c = record { points = c.requires.before; here = c.corner-c.ensures; few = omega arith; steps = omega arith }

pub loop-i-preserved : goal.loop-i-preserved
loop-i-preserved g c =
    let before = c.loop-i.invariant in
    let pushed = c.push_meetings.ensures in
    let next = c.next-d.ensures in
    let here = rw (before.here, next) at c.in_ok-push_meetings.ensures.enclosed in
    record {
      points = lists_more c.args.ring.now.corners (whole c.args.a.now) (whole c.args.b.now) c.loop-i.i (breakpoint_points c.loop-i.points.items)
          (breakpoint_points c.push_meetings.new.points.items) before.points pushed.extends here;
      here = next;
      few = omega (arith, before.few, pushed.few);
      steps = omega (arith, before.steps, pushed.steps);
    }

pub returns-clause-points : goal.returns-clause-points
returns-clause-points g c =
    let ring = c.args.ring.now.corners in
    let all : c.loop-i.i ≡ c.args.edges.end = omega arith in
    subst (λ n. ListsMeetings ring n (whole c.args.a.now) (whole c.args.b.now) (breakpoint_points c.loop-i.points.items)) all c.loop-i.invariant.points
