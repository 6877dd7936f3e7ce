use Rattle.std.proofs.Common.{◌≡◌, ap, ◌∙◌, ◌<◌, length, set, rules, arith}
use Rattle.sweep_tri.proofs.Work.{as_many, emptied_paid, entries_with, met_work, put_entries, replaced_twice}
use Rattle.sweep_tri.specs.Entries.{IsPaid, entries, event_work, gap_entries}
use Rattle.sweep_tri.specs.Gaps.{gap_at}
use Rattle.sweep_tri.specs.Meeting.{gap_of, left_at, with_vertex}
use Rattle.sweep_tri.proofs.event.Sweep.go_on_at.Goals as goal

pub returns-in_err-region-clause-work : goal.returns-in_err-region-clause-work
returns-in_err-region-clause-work g c =
    let met = met_work c.args.self.now.status c.args.j c.args.steps.now c.requires.place c.args.side c.args.v _ c.replace-gap.ensures.gap _
    c.meet.ensures.steps in
    (omega (arith, met), search rules)

pub returns-in_err-extend-clause-work : goal.returns-in_err-extend-clause-work
returns-in_err-extend-clause-work g c =
    let met = met_work c.args.self.now.status c.args.j c.args.steps.now c.requires.place c.args.side c.args.v _ c.replace-gap.ensures.gap _
    c.meet.ensures.steps in
    (omega (arith, met), search rules)

pub returns-clause-gaps : goal.returns-clause-gaps
returns-clause-gaps g c =
    let gaps = c.args.self.now.status in
    let gap = gap_at gaps c.args.j in
    let left : c.in_ok-region.region ≡ left_at c.args.side gap.low gap.high c.args.v = rw c.replace-gap.ensures.gap at c.in_ok-region.ensures.left in
    let region_is = c.in_ok-extend.ensures ∙ ap (λ r. with_vertex c.args.side r c.args.w) left in
    replaced_twice gaps c.replace-gap.new.self c.replace.new.self c.args.j c.none.result c.of.result c.replace-gap.ensures.gaps c.replace.ensures.gaps
    ∙ ap (set gaps c.args.j) (c.of.ensures ∙ ap gap_of region_is)

pub returns-clause-work : goal.returns-clause-work
returns-clause-work g c =
    let gaps = c.args.self.now.status in
    let met = emptied_paid gaps c.args.j c.args.steps.now c.requires.place c.args.side c.args.v _ c.replace-gap.ensures.gap _ c.meet.ensures.steps
    _ _ c.in_ok-region.ensures.left _ c.none.ensures c.replace-gap.ensures.gaps in
    let same = as_many gaps c.replace-gap.new.self c.args.j c.none.result c.replace-gap.ensures.gaps in
    let within : c.args.j < length c.replace-gap.new.self = omega (arith, same, c.requires.place) in
    let put = put_entries c.replace-gap.new.self c.replace.new.self c.args.j c.of.result within c.replace.ensures.gaps in
    let one = ap entries c.in_ok-extend.ensures ∙ entries_with c.args.side c.in_ok-region.region c.args.w in
    let paid : IsPaid gaps c.replace.new.self event_work c.args.steps.now c.meet.new.steps = omega (arith, met, put, ap gap_entries c.of.ensures, one) in
    (omega (arith, paid), paid)
