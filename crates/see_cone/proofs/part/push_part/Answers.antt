use Rattle.std.proofs.Common.{sym, ◌∙◌, ◌+◌, arith}
use Rattle.plane.specs.Point.{whole}
use Rattle.rings.proofs.Vertices.{vertex_mod}
use Rattle.see_cone.proofs.FirstParts.{first_part, first_unseen}
use Rattle.see_cone.proofs.part.push_part.Goals as goal

pub returns-in_ok-push-in-Some-clause-parts : goal.returns-in_ok-push-in-Some-clause-parts
returns-in_ok-push-in-Some-clause-parts g c =
    let corners = c.args.ring.now.corners in
    let q = whole c.args.q.now in
    let through = c.part_through.ensures in
    let end = c.next-l.ensures ∙ sym (vertex_mod c.args.ring.now.corners (c.args.i + 1)) in
    let first = rw (c.corner-r.ensures, end) at through.first in
    let last = rw (c.corner-r.ensures, end) at through.last in
    let cone = rw (c.corner-r.ensures, end) at (sym c.narrowed.ensures.cone ∙ c.in-Some.is) in
    rw c.in_ok-push-in-Some.ensures.items
    (first_part corners q c.args.i c.args.parts.now.items c.requires.before c.part_through.result (omega (arith, through.edge))
    (c.requires.told.part c.in-Some.cone cone c.part_through.result.first c.part_through.result.last first last))

pub returns-in-None-clause-parts : goal.returns-in-None-clause-parts
returns-in-None-clause-parts g c =
    let end = c.next-l.ensures ∙ sym (vertex_mod c.args.ring.now.corners (c.args.i + 1)) in
    let cone = rw (c.corner-r.ensures, end) at (sym c.narrowed.ensures.cone ∙ c.in-None.is) in
    let corners = c.args.ring.now.corners in
    first_unseen corners (whole c.args.q.now) c.args.i c.args.parts.now.items c.requires.before (c.requires.told.unseen cone)
