use Rattle.std.proofs.Common.{◌≡◌, ap, ◌∙◌}
use Rattle.std.proofs.lemmas.List.{get_or_read}
use Rattle.std.specs.Prelude.{slice_index, slice_set}
use Rattle.sweep_tri.proofs.Slots.{gaps_replaced, number_in}
use Rattle.sweep_tri.proofs.status.Status.replace.Goals as goal
use Rattle.sweep_tri.specs.Slots.{gaps_of}

pub returns-clause-gaps : goal.returns-clause-gaps
returns-clause-gaps c =
    let numbers = c.self.inside.numbers.items in
    let within = number_in _ _ _ c.args.j c.self.view_is c.requires in
    let number : c.index.result.now ≡ slice_index numbers c.args.j = get_or_read numbers c.args.j _ within c.index.ensures 0 in
    ap (λ n. gaps_of (slice_set c.self.inside.slots.items n c.replace.new.dest) numbers) number
    ∙ gaps_replaced _ _ c.self.invariant.taken _ within c.replace.new.dest
    ∙ ap (λ gaps. slice_set gaps c.args.j c.replace.new.dest) c.self.view_is
    ∙ ap (λ gap. slice_set c.args.self.now c.args.j gap) c.replace.ensures.after
