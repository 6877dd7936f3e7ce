use Rattle.std.proofs.Common.{refl, sym, ◌∙◌, ◌+◌, ◌-◌}
use Rattle.std.proofs.lemmas.Bool.{false≢true}
use Rattle.std.specs.Prelude.{slice_index}
use Rattle.mono_fill.specs.declared.side.Side.TheVariants.{Lower, Upper}
use Rattle.sweep_tri.proofs.Passes.{low_some, next_closes, next_low, next_up, on_ok_both, swept_of_next, swept_same}
use Rattle.sweep_tri.proofs.event.Sweep.go_on.Goals as goal

pub low_ends-requires : goal.low_ends-requires
low_ends-requires g c = record { some = λ inside. low_some c.requires.next c.args.j inside }

pub go_on_at-requires-clause-place : goal.go_on_at-requires-clause-place
go_on_at-requires-clause-place g c = (c.low_ends.ensures.ends.0 c.if-low_ends.true).0

pub go_on_at-requires-clause-closed : goal.go_on_at-requires-clause-closed
go_on_at-requires-clause-closed g c =
    let ends = c.low_ends.ensures.ends.0 c.if-low_ends.true in
    next_closes c.requires.next c.args.j c.requires.place c.args.w c.requires.goes_on Lower c.args.j
    (next_low c.requires.next c.args.j c.requires.place c.args.w c.requires.goes_on ends.0 ends.1)

pub overflow_sub-j : goal.overflow_sub-j
overflow_sub-j g c =
    (next_up c.requires.next c.args.j c.requires.place c.args.w c.requires.goes_on
    (λ ends. false≢true (sym c.if-low_ends.false ∙ c.low_ends.ensures.ends.1 ends))).0

pub go_on_at-requires-else-low_ends-clause-place : goal.go_on_at-requires-else-low_ends-clause-place
go_on_at-requires-else-low_ends-clause-place g c =
    (next_up c.requires.next c.args.j c.requires.place c.args.w c.requires.goes_on
    (λ ends. false≢true (sym c.if-low_ends.false ∙ c.low_ends.ensures.ends.1 ends))).1.inside

pub go_on_at-requires-else-low_ends-clause-closed : goal.go_on_at-requires-else-low_ends-clause-closed
go_on_at-requires-else-low_ends-clause-closed g c =
    next_closes c.requires.next c.args.j c.requires.place c.args.w c.requires.goes_on Upper (c.args.j - 1)
    (next_up c.requires.next c.args.j c.requires.place c.args.w c.requires.goes_on
    (λ ends. false≢true (sym c.if-low_ends.false ∙ c.low_ends.ensures.ends.1 ends))).1

pub returns-then-low_ends-clause-swept : goal.returns-then-low_ends-clause-swept
returns-then-low_ends-clause-swept g c =
    let ends = c.low_ends.ensures.ends.0 c.if-low_ends.true in
    on_ok_both c.go_on_at.result c.go_on_at.ensures.gaps c.go_on_at.ensures.filled
    (λ is filled. swept_same (g.T.Turns.corners c.args.ring.now.board.now) c.args.ring.now.rank.now (slice_index c.args.ring.now.rank.now c.args.v + 1) is refl
    (swept_of_next c.requires.next c.args.j c.requires.place c.args.w c.requires.goes_on Lower c.args.j
    (next_low c.requires.next c.args.j c.requires.place c.args.w c.requires.goes_on ends.0 ends.1) c.go_on_at.new.self.tris.items filled))

pub returns-else-low_ends-clause-swept : goal.returns-else-low_ends-clause-swept
returns-else-low_ends-clause-swept g c =
    on_ok_both c.go_on_at-else-low_ends.result c.go_on_at-else-low_ends.ensures.gaps c.go_on_at-else-low_ends.ensures.filled
    (λ is filled. swept_same (g.T.Turns.corners c.args.ring.now.board.now) c.args.ring.now.rank.now (slice_index c.args.ring.now.rank.now c.args.v + 1) is refl
    (swept_of_next c.requires.next c.args.j c.requires.place c.args.w c.requires.goes_on Upper (c.args.j - 1)
    (next_up c.requires.next c.args.j c.requires.place c.args.w c.requires.goes_on
    (λ ends. false≢true (sym c.if-low_ends.false ∙ c.low_ends.ensures.ends.1 ends))).1 c.go_on_at-else-low_ends.new.self.tris.items filled))
