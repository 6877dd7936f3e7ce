use Rattle.std.proofs.Common.{◌≡◌, ◌-◌, ◌<◌, length, ap, ◌∙◌, Some, set, rules, arith}
use Rattle.std.proofs.lemmas.List.Edits.{length-remove}
use Rattle.std.specs.List.{remove}
use Rattle.mono_fill.specs.declared.side.Side.TheVariants.{Lower, Upper}
use Rattle.sweep_tri.proofs.Balance.{filled-append}
use Rattle.sweep_tri.proofs.Work.{as_many, emptied_paid, met_work, put_entries, removed_paid}
use Rattle.sweep_tri.proofs.Work.{replaced_twice, still_there}
use Rattle.sweep_tri.specs.Entries.{IsPaid, event_work, gap_entries}
use Rattle.sweep_tri.specs.Gaps.{gap_at}
use Rattle.sweep_tri.specs.Meeting.{closed_at, left_at}
use Rattle.sweep_tri.specs.declared.gap.Gap.{Gap}
use Rattle.sweep_tri.proofs.event.Sweep.merge.Goals as goal

pub returns-in_err-high-clause-work : goal.returns-in_err-high-clause-work
returns-in_err-high-clause-work g c =
    let met = met_work c.args.self.now.status c.args.j c.args.steps.now c.requires.place Lower c.args.v _ c.in_ok-above.ensures.gap _ c.meet.ensures.steps in
    (omega (arith, met), search rules)

pub meet-requires-2-clause-closed : goal.meet-requires-2-clause-closed
meet-requires-2-clause-closed g c =
    rw (
      c.replace-below.ensures.gap,
      c.in_ok-above.ensures.gaps,
      still_there c.args.self.now.status (c.args.j - 1) c.args.j (omega (arith, c.requires.first)) c.requires.place,
    )
    c.requires.closed_above

pub returns-in_err-low-clause-work : goal.returns-in_err-low-clause-work
returns-in_err-low-clause-work g c =
    let gaps = c.args.self.now.status in
    let i = c.args.j - 1 in
    let rest = ap length c.in_ok-above.ensures.gaps in
    let within : i < length c.remove.new.self = omega (arith, rest, length-remove gaps c.args.j c.requires.place, c.requires.place, c.requires.first) in
    let met = removed_paid gaps c.args.j c.args.steps.now c.requires.place Lower c.args.v _ c.in_ok-above.ensures.gap _ c.meet.ensures.steps
    _ _ c.in_ok-high.ensures.left c.in_ok-above.ensures.gaps in
    let met_below = met_work c.remove.new.self i _ within Upper c.args.v _ c.replace-below.ensures.gap _ c.meet-2.ensures.steps in
    (omega (arith, met, met_below), search rules)

pub returns-clause-gaps : goal.returns-clause-gaps
returns-clause-gaps g c =
    let gaps = c.args.self.now.status in
    let i = c.args.j - 1 in
    let f = gap_at gaps i in
    let h = gap_at gaps c.args.j in
    let both : Gap = record { low = left_at Upper f.low f.high c.args.v; high = Some (left_at Lower h.low h.high c.args.v) } in
    let f_is = c.replace-below.ensures.gap ∙ ap (λ gs. gap_at gs i) c.in_ok-above.ensures.gaps
    ∙ still_there gaps i c.args.j (omega (arith, c.requires.first)) c.requires.place in
    let low_is : c.in_ok-low.low ≡ left_at Upper f.low f.high c.args.v = rw f_is at c.in_ok-low.ensures.left in
    let high_is : c.in_ok-high.high ≡ left_at Lower h.low h.high c.args.v = rw c.in_ok-above.ensures.gap at c.in_ok-high.ensures.left in
    let both_is : c.of_two.result ≡ both = rw (low_is, high_is) at c.of_two.ensures in
    replaced_twice c.remove.new.self c.replace-below.new.self c.replace.new.self i c.none.result c.of_two.result c.replace-below.ensures.gaps
    c.replace.ensures.gaps
    ∙ ap (λ gs. set gs i c.of_two.result) c.in_ok-above.ensures.gaps ∙ ap (set (remove gaps c.args.j) i) both_is

pub returns-clause-filled : goal.returns-clause-filled
returns-clause-filled g c =
    let gaps = c.args.self.now.status in
    let i = c.args.j - 1 in
    let f = gap_at gaps i in
    let h = gap_at gaps c.args.j in
    let f_is = c.replace-below.ensures.gap ∙ ap (λ gs. gap_at gs i) c.in_ok-above.ensures.gaps
    ∙ still_there gaps i c.args.j (omega (arith, c.requires.first)) c.requires.place in
    filled-append (g.T.Turns.corners c.args.ring.now.board.now) (closed_at Lower h.low h.high c.args.v) (closed_at Upper f.low f.high c.args.v)
    c.args.self.now.tris.items c.meet.new.tris.items c.meet-2.new.tris.items (rw c.in_ok-above.ensures.gap at c.in_ok-high.ensures.filled)
    (rw f_is at c.in_ok-low.ensures.filled)

pub returns-clause-work : goal.returns-clause-work
returns-clause-work g c =
    let gaps = c.args.self.now.status in
    let i = c.args.j - 1 in
    let rest = ap length c.in_ok-above.ensures.gaps in
    let within : i < length c.remove.new.self = omega (arith, rest, length-remove gaps c.args.j c.requires.place, c.requires.place, c.requires.first) in
    let same = as_many c.remove.new.self c.replace-below.new.self i c.none.result c.replace-below.ensures.gaps in
    let put = put_entries c.replace-below.new.self c.replace.new.self i c.of_two.result (omega (arith, within, same)) c.replace.ensures.gaps in
    let met = removed_paid gaps c.args.j c.args.steps.now c.requires.place Lower c.args.v _ c.in_ok-above.ensures.gap _ c.meet.ensures.steps
    _ _ c.in_ok-high.ensures.left c.in_ok-above.ensures.gaps in
    let met_below = emptied_paid c.remove.new.self i _ within Upper c.args.v _ c.replace-below.ensures.gap _ c.meet-2.ensures.steps
    _ _ c.in_ok-low.ensures.left _ c.none.ensures c.replace-below.ensures.gaps in
    let paid : IsPaid gaps c.replace.new.self event_work c.args.steps.now c.meet-2.new.steps = omega (arith, met, met_below, put, ap gap_entries c.of_two.ensures) in
    (omega (arith, paid), paid)
