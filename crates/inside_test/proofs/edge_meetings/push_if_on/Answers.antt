use Rattle.plane.proofs.Points.{whole_is_point}
use Rattle.plane.specs.Point.{whole}
use Rattle.inside_test.proofs.PointLists.{extends_pushed}
use Rattle.inside_test.proofs.edge_meetings.push_if_on.Goals as goal
use Rattle.inside_test.specs.Breakpoints.{breakpoint_points}

pub returns-clause-extends : goal.returns-clause-extends
returns-clause-extends g c =
    let on = c.on_segment.ensures.on.0 c.if-not-on_segment.false in
    let ok = rw c.of_pt.ensures.point at c.push.ensures.ok in
    extends_pushed (whole c.args.a.now) (whole c.args.b.now) c.push.result (breakpoint_points c.args.points.now.items)
    (breakpoint_points c.push.new.points.items) (whole c.args.p.now) (whole_is_point c.args.p.now, on) ok c.push.ensures.err
