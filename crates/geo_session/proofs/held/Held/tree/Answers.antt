use Rattle.geo_session.proofs.Asks.{tree_kept, tree_refused}
use Rattle.geo_session.proofs.Paces.{tree_found, tree_paced}
use Rattle.geo_session.specs.Held.{HeldRing, is_there, source_of}
use Rattle.geo_session.proofs.held.Held.tree.Goals as goal

pub returns-in-Err-clause-asked : goal.returns-in-Err-clause-asked
returns-in-Err-clause-asked g c =
    let found = rw c.in-Err.is at c.find.ensures.found in
    λ version. rw c.unchanged.ensures (tree_refused version c.args.self.now c.args.source.now c.in-Err.bad found.0 found.1)

pub returns-in-Err-clause-paced : goal.returns-in-Err-clause-paced
returns-in-Err-clause-paced g c = λ version. tree_found version c.args.self.now c.args.steps.now c.find.new.steps c.args.source.now c.find.ensures.steps

pub returns-clause-asked : goal.returns-clause-asked
returns-clause-asked g c =
    let found = rw (c.in-Ok.is, ← c.self.view_is) at c.find.ensures.found in
    λ version. rw (← c.self.view_is, c.of-2.ensures)
    (tree_kept version _ c.args.source.now c.in_ok-grown.grown c.in_ok-befores.befores.items found.0 c.in_ok-grown.ensures.source
    c.in_ok-grown.ensures.grown (rw c.in_ok-grown.ensures.source at c.in_ok-befores.ensures.from))

pub returns-clause-paced : goal.returns-clause-paced
returns-clause-paced g c =
    let held : HeldRing =
    record { ring = c.self.inside.ring; tris = c.self.inside.mesh; source = source_of c.self.inside.grown; prepared = is_there c.self.inside.pairs } in
    λ version. rw (← c.self.view_is)
    (tree_paced version held c.args.steps.now c.of.new.steps c.args.source.now c.find.new.steps (rw (← c.self.view_is) at c.find.ensures.steps)
    c.in_ok-grown.ensures.steps)

pub returns-in_err-befores-clause-paced : goal.returns-in_err-befores-clause-paced
returns-in_err-befores-clause-paced g c =
    let held : HeldRing =
    record { ring = c.self.inside.ring; tris = c.self.inside.mesh; source = source_of c.self.inside.grown; prepared = is_there c.self.inside.pairs } in
    λ version. rw (← c.self.view_is)
    (tree_paced version held c.args.steps.now c.of.new.steps c.args.source.now c.find.new.steps (rw (← c.self.view_is) at c.find.ensures.steps)
    c.in_ok-grown.ensures.steps)
