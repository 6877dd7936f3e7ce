use Rattle.std.proofs.Common.{◌≡◌, sym, ap, ◌∙◌, ◌<◌, length, arith}
use Rattle.std.proofs.lemmas.List.{get_or_read}
use Rattle.std.specs.List.{remove}
use Rattle.std.specs.Prelude.{slice_index, slice_set}
use Rattle.sweep_tri.proofs.Slots.{gap_is, gaps_removed, number_in, slots_freed}
use Rattle.sweep_tri.proofs.status.Status.remove.Goals as goal
use Rattle.sweep_tri.specs.Gaps.{gap_at, no_gap}
use Rattle.sweep_tri.specs.Slots.{gaps_of}

pub invariant_of-self-2 : goal.invariant_of-self-2
invariant_of-self-2 c =
    let numbers = c.self.inside.numbers.items in
    let within = number_in _ _ _ c.args.j c.self.view_is c.requires in
    let number : c.index-number.result.now ≡ slice_index numbers c.args.j = get_or_read numbers c.args.j _ within c.index-number.ensures 0 in
    rw (c.remove.ensures.items, c.in_ok-push.ensures.items, number) (slots_freed _ _ _ c.self.invariant _ within c.replace.new.dest)

pub returns-clause-gaps : goal.returns-clause-gaps
returns-clause-gaps c =
    let slots = c.self.inside.slots.items in
    let numbers = c.self.inside.numbers.items in
    let within = number_in _ _ _ c.args.j c.self.view_is c.requires in
    let number : c.index-number.result.now ≡ slice_index numbers c.args.j = get_or_read numbers c.args.j _ within c.index-number.ensures 0 in
    ap (gaps_of (slice_set slots c.index-number.result.now c.replace.new.dest)) c.remove.ensures.items
    ∙ ap (λ n. gaps_of (slice_set slots n c.replace.new.dest) (remove numbers c.args.j)) number
    ∙ gaps_removed _ _ c.self.invariant.taken _ within c.replace.new.dest
    ∙ ap (λ gaps. remove gaps c.args.j) c.self.view_is

pub returns-clause-gap : goal.returns-clause-gap
returns-clause-gap c =
    let slots = c.self.inside.slots.items in
    let numbers = c.self.inside.numbers.items in
    let within = number_in _ _ _ c.args.j c.self.view_is c.requires in
    let number : c.index-number.result.now ≡ slice_index numbers c.args.j = get_or_read numbers c.args.j _ within c.index-number.ensures 0 in
    let below : c.index-number.result.now < length slots = omega (arith, number, c.self.invariant.taken.below _ 0 within) in
    c.replace.ensures.value ∙ get_or_read slots c.index-number.result.now c.index_mut.result.now below c.index_mut.ensures.value no_gap
    ∙ ap (gap_at slots) number ∙ sym (gap_is slots _ _ within) ∙ ap (λ gaps. gap_at gaps c.args.j) c.self.view_is
