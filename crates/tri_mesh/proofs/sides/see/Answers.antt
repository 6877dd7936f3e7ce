use Rattle.std.proofs.Common.{sym, ap, ◌∙◌, arith}
use Rattle.tri_mesh.proofs.SideLists.{length-sides}
use Rattle.tri_mesh.proofs.SidesSeen.{seen_linked}
use Rattle.tri_mesh.proofs.sides.see.Goals as goal
use Rattle.tri_mesh.specs.Neighbours.{mark_at, sides_of}

pub returns-else-not-link_with-clause-seen : goal.returns-else-not-link_with-clause-seen
returns-else-not-link_with-clause-seen c =
    let (q, mark, shared, is) = c.link_with.ensures.linked cc in
    let here = c.side_at-side.ensures in
    let marked = ap (λ s. mark_at c.args.marks.now s.low) (sym here) ∙ sym c.last_up_to.ensures ∙ mark in
    rw (rw here at is) (seen_linked _ _ (sides_of c.args.tris.now c.args.befores.now) c.requires.paired c.args.rows.now.items c.args.marks.now c.args.p
    c.requires.place c.requires.seen q marked (rw here at shared))

pub overflow_add-marks : goal.overflow_add-marks
overflow_add-marks c = omega (arith, c.requires.few, c.requires.number, c.requires.place, length-sides c.args.tris.now c.args.befores.now)
