use Rattle.exact_plane.proofs.Fields.{passes}
use Rattle.exact_plane.proofs.pt.Pt.boxes_meet.Goals as goal

pub returns-then-intervals_meet : goal.returns-then-intervals_meet
returns-then-intervals_meet c =
    let s = passes c.self.inside c.args.self.now c.self.invariant c.self.view_is in
    let b = passes c.b.inside c.args.b.now c.b.invariant c.b.view_is in
    let x = passes c.c.inside c.args.c.now c.c.invariant c.c.view_is in
    let y = passes c.d.inside c.args.d.now c.d.invariant c.d.view_is in
    let in_x = rw (s.0, b.0, x.0, y.0) at c.intervals_meet.ensures in
    let in_y = rw (s.1, b.1, x.1, y.1) at c.intervals_meet-then-intervals_meet.ensures in
    (λ h. record { in_x = in_x.0 c.if-intervals_meet.true; in_y = in_y.0 h }, λ meet. in_y.1 meet.in_y)
