use Rattle.std.proofs.Common.{inl, sym, ◌∙◌, ◌<◌, arith}
use Rattle.std.proofs.lemmas.Bool.{false≢true}
use Rattle.std.specs.Prelude.{slice_index}
use Rattle.sweep_tri.proofs.Passes.{begins_of_fork, is_sorted, pass_accounted}
use Rattle.sweep_tri.proofs.event.Sweep.pass.Goals as goal

pub place-j-requires-clause-sorted : goal.place-j-requires-clause-sorted
place-j-requires-clause-sorted g c = is_sorted c.requires.next

pub begin-requires-clause-begins : goal.begin-requires-clause-begins
begin-requires-clause-begins g c =
    begins_of_fork c.requires.next c.place-j.result c.place-j.ensures.place c.neighbours-a.result.0 c.neighbours-a.result.1 c.fork_of-fork.result
    (inl (c.neighbours-a.ensures.before, c.neighbours-a.ensures.after)) (c.is_after-a_begins.ensures.0 c.if-a_begins.true)
    (c.is_after-b_begins.ensures.0 c.if-b_begins.true) c.fork_of-fork.ensures.fork

pub go_on-requires-then-b_begins-2-clause-goes_on : goal.go_on-requires-then-b_begins-2-clause-goes_on
go_on-requires-then-b_begins-2-clause-goes_on g c =
    let a = c.neighbours-a.result.0 in
    let not : ¬ (slice_index c.args.rank.now c.args.v < slice_index c.args.rank.now a) =
    λ less. false≢true (sym c.if-a_begins-2.false ∙ c.is_after-a_begins.ensures.1 less) in
    record {
      from = a;
      beside = inl (c.neighbours-a.ensures.before, c.neighbours-a.ensures.after);
      not_later = omega (arith, not);
      later = c.is_after-b_begins.ensures.0 c.if-b_begins-2.true;
    }

pub returns-then-b_begins-clause-work : goal.returns-then-b_begins-clause-work
returns-then-b_begins-clause-work g c =
    pass_accounted c.requires.next c.begin.result c.begin.new.self.status c.args.steps.now c.fork_of-fork.new.steps c.begin.new.steps
    (omega (arith, c.place-j.ensures.steps, c.fork_of-fork.ensures.steps)) c.begin.ensures.work

pub returns-then-a_begins-2-clause-work : goal.returns-then-a_begins-2-clause-work
returns-then-a_begins-2-clause-work g c =
    pass_accounted c.requires.next c.go_on.result c.go_on.new.self.status c.args.steps.now c.place-j.new.steps c.go_on.new.steps
    (omega (arith, c.place-j.ensures.steps)) c.go_on.ensures.work

pub returns-then-b_begins-2-clause-work : goal.returns-then-b_begins-2-clause-work
returns-then-b_begins-2-clause-work g c =
    pass_accounted c.requires.next c.go_on-then-b_begins-2.result c.go_on-then-b_begins-2.new.self.status c.args.steps.now c.place-j.new.steps c.go_on-then-b_begins-2.new.steps
    (omega (arith, c.place-j.ensures.steps)) c.go_on-then-b_begins-2.ensures.work

pub returns-else-b_begins-2-clause-work : goal.returns-else-b_begins-2-clause-work
returns-else-b_begins-2-clause-work g c =
    pass_accounted c.requires.next c.finish.result c.finish.new.self.status c.args.steps.now c.place-j.new.steps c.finish.new.steps
    (omega (arith, c.place-j.ensures.steps)) c.finish.ensures.work
