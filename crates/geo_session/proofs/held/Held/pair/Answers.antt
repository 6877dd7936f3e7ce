use Rattle.std.proofs.Common.{refl, w64}
use Rattle.std.proofs.lemmas.Int.{to_z-of_z}
use Rattle.std.specs.Prelude.{Some}
use Rattle.geo_text.specs.declared.command.Command.TheVariants as command
use Rattle.geo_session.proofs.Asks.{pair_made, pair_refused, pair_told}
use Rattle.geo_session.proofs.Paces.{new_pair_paced, pair_paced, unpaced}
use Rattle.geo_session.specs.Asking.{seen_of}
use Rattle.geo_session.specs.Held.{HeldRing, is_there, source_of}
use Rattle.geo_session.proofs.held.Held.pair.Goals as goal

pub returns-in-Err-clause-asked : goal.returns-in-Err-clause-asked
returns-in-Err-clause-asked g c =
    let asked = rw (to_z-of_z w64 c.args.i c.ranges.i, to_z-of_z w64 c.args.j c.ranges.j, c.in-Err.is) at c.asked.ensures in
    rw c.unchanged.ensures (pair_refused c.args.version c.args.self.now c.args.i c.args.j c.in-Err.bad asked)

pub returns-in-Err-clause-paced : goal.returns-in-Err-clause-paced
returns-in-Err-clause-paced g c = unpaced (seen_of c.args.version (Some c.args.self.now)) (command.Pair c.args.i c.args.j) c.args.steps.now

pub returns-in-Some-clause-asked : goal.returns-in-Some-clause-asked
returns-in-Some-clause-asked g c =
    let asked = rw (to_z-of_z w64 c.args.i c.ranges.i, to_z-of_z w64 c.args.j c.ranges.j, c.in-Ok.is, ← c.self.view_is) at c.asked.ensures in
    rw (← c.self.view_is, c.unchanged-in-Some.ensures)
    (pair_told c.args.version _ c.args.i c.args.j c.in-Ok.pair c.in_ok-joined.field-0 asked (rw (← c.self.view_is) at c.in_ok-joined.ensures.shown)
    (rw c.in-Some.is refl))

pub returns-in-Some-clause-paced : goal.returns-in-Some-clause-paced
returns-in-Some-clause-paced g c =
    let held : HeldRing =
    record { ring = c.self.inside.ring; tris = c.self.inside.mesh; source = source_of c.self.inside.grown; prepared = is_there c.self.inside.pairs } in
    rw (← c.self.view_is)
    (pair_paced c.args.version held c.args.steps.now c.joined.new.steps c.args.i c.args.j (rw c.in-Some.is refl) (rw (← c.self.view_is) at c.joined.ensures.steps))

pub returns-clause-asked : goal.returns-clause-asked
returns-clause-asked g c =
    let asked = rw (to_z-of_z w64 c.args.i c.ranges.i, to_z-of_z w64 c.args.j c.ranges.j, c.in-Ok.is, ← c.self.view_is) at c.asked.ensures in
    rw (← c.self.view_is)
    (pair_made c.args.version _ c.args.i c.args.j c.in-Ok.pair c.in_ok-reply.reply asked (rw (← c.self.view_is) at c.in_ok-reply.ensures.shown)
    c.in_ok-table.table (rw (← c.self.view_is) at c.in_ok-table.ensures.made))

pub returns-clause-paced : goal.returns-clause-paced
returns-clause-paced g c =
    let held : HeldRing =
    record { ring = c.self.inside.ring; tris = c.self.inside.mesh; source = source_of c.self.inside.grown; prepared = is_there c.self.inside.pairs } in
    rw (← c.self.view_is)
    (new_pair_paced c.args.version held c.args.steps.now c.joined-2.new.steps c.args.i c.args.j c.new_table.new.steps (rw c.in_default.is refl)
    (rw (← c.self.view_is) at c.new_table.ensures.steps) (rw (← c.self.view_is) at c.joined-2.ensures.steps))

pub returns-in_err-reply-clause-paced : goal.returns-in_err-reply-clause-paced
returns-in_err-reply-clause-paced g c =
    let held : HeldRing =
    record { ring = c.self.inside.ring; tris = c.self.inside.mesh; source = source_of c.self.inside.grown; prepared = is_there c.self.inside.pairs } in
    rw (← c.self.view_is)
    (new_pair_paced c.args.version held c.args.steps.now c.joined-2.new.steps c.args.i c.args.j c.new_table.new.steps (rw c.in_default.is refl)
    (rw (← c.self.view_is) at c.new_table.ensures.steps) (rw (← c.self.view_is) at c.joined-2.ensures.steps))
