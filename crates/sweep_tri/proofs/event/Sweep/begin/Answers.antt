use Rattle.std.proofs.Common.{sym, ◌∙◌, ◌+◌, ◌-◌, ◌≤◌, arith}
use Rattle.std.proofs.lemmas.Bool.{false≢true}
use Rattle.std.proofs.lemmas.Result.{on_ok_weaker}
use Rattle.std.specs.Prelude.{slice_index}
use Rattle.sweep_tri.proofs.Passes.{low_from, low_some, low_upper_from, low_upper_some, swept_of_split, swept_of_start, swept_same}
use Rattle.sweep_tri.proofs.Passes.{up_from, up_some, up_to}
use Rattle.sweep_tri.proofs.Work.{splits_paid, starts_paid}
use Rattle.sweep_tri.proofs.event.Sweep.begin.Goals as goal
use Rattle.sweep_tri.proofs.event.Sweep.begin.Goals.{else-j-gt0-via-then-j-gt0+else-is_under, else-j-gt0-via-else-j-gt0}

pub is_under-requires-clause-some : goal.is_under-requires-clause-some
is_under-requires-clause-some g c = up_some c.requires.next (c.args.j - 1) (omega (arith, c.if-j-gt0.true, c.requires.place.inside))

pub is_under-requires-clause-from : goal.is_under-requires-clause-from
is_under-requires-clause-from g c = up_from c.requires.next (c.args.j - 1) (omega (arith, c.if-j-gt0.true, c.requires.place.inside))

pub is_under-requires-clause-to : goal.is_under-requires-clause-to
is_under-requires-clause-to g c = up_to c.requires.next (c.args.j - 1) (omega (arith, c.if-j-gt0.true, c.requires.place.inside))

pub split-requires-clause-lower : goal.split-requires-clause-lower
split-requires-clause-lower g c = low_some c.requires.next (c.args.j - 1) (omega (arith, c.if-j-gt0.true, c.requires.place.inside))

pub split-requires-clause-upper : goal.split-requires-clause-upper
split-requires-clause-upper g c = low_upper_some c.requires.next (c.args.j - 1) (omega (arith, c.if-j-gt0.true, c.requires.place.inside))

pub split-requires-clause-lower_from : goal.split-requires-clause-lower_from
split-requires-clause-lower_from g c = low_from c.requires.next (c.args.j - 1) (omega (arith, c.if-j-gt0.true, c.requires.place.inside))

pub split-requires-clause-upper_from : goal.split-requires-clause-upper_from
split-requires-clause-upper_from g c = low_upper_from c.requires.next (c.args.j - 1) (omega (arith, c.if-j-gt0.true, c.requires.place.inside))

pub returns-then-is_under-clause-swept : goal.returns-then-is_under-clause-swept
returns-then-is_under-clause-swept g c =
    on_ok_weaker c.split.result
    (λ is. swept_same (g.T.Turns.corners c.args.ring.now.board.now) c.args.ring.now.rank.now (slice_index c.args.ring.now.rank.now c.args.fork.vertex + 1) is c.split.ensures.triangles
    (swept_of_split c.args.fork c.requires.next c.args.j c.requires.place c.requires.begins c.if-j-gt0.true (c.is_under.ensures.under.0 c.if-is_under.true)))
    c.split.ensures.gaps

pub returns-else-j-gt0-clause-swept : goal.returns-else-j-gt0-clause-swept
returns-else-j-gt0-clause-swept g c =
    on_ok_weaker c.start.result
    (λ is. swept_same (g.T.Turns.corners c.args.ring.now.board.now) c.args.ring.now.rank.now (slice_index c.args.ring.now.rank.now c.args.fork.vertex + 1) is c.start.ensures.triangles
    (swept_of_start c.args.fork c.requires.next c.args.j c.requires.place c.requires.begins
    (λ some under. elim c.else-j-gt0.branch [
      | else-j-gt0-via-then-j-gt0+else-is_under w ↦ false≢true (sym w.if-is_under.false ∙ w.is_under.ensures.under.1 under)
      | else-j-gt0-via-else-j-gt0 w ↦ absurd (omega (arith, some, w.if-j-gt0.false))
    ])))
    c.start.ensures.gaps

pub returns-then-is_under-clause-work : goal.returns-then-is_under-clause-work
returns-then-is_under-clause-work g c =
    let fork = c.args.fork in (
      omega (arith, c.is_under.ensures.steps),
      on_ok_weaker c.split.result
          (splits_paid c.args.self.now.status (c.args.j - 1) c.args.steps.now (omega (arith, c.if-j-gt0.true, c.requires.place.inside)) c.args.ring.now.rank.now
          fork.vertex fork.below fork.above c.is_under.new.steps c.is_under.ensures.steps c.split.new.self.status)
          c.split.ensures.gaps,
    )

pub returns-else-j-gt0-clause-work : goal.returns-else-j-gt0-clause-work
returns-else-j-gt0-clause-work g c =
    let fork = c.args.fork in
    let most : c.else-j-gt0.steps ≤ c.args.steps.now + 1 = elim c.else-j-gt0.branch [
      | else-j-gt0-via-then-j-gt0+else-is_under w ↦ omega (arith, w.steps-is, w.is_under.ensures.steps)
      | else-j-gt0-via-else-j-gt0 w ↦ omega (arith, w.steps-is)
    ] in (
      omega (arith, most),
      on_ok_weaker c.start.result
          (starts_paid c.args.self.now.status c.args.j c.args.steps.now fork.vertex fork.below fork.above c.else-j-gt0.steps most c.start.new.self.status)
          c.start.ensures.gaps,
    )
