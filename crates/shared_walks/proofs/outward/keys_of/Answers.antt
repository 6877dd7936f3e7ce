use Rattle.std.proofs.Common.{refl, ◌+◌, ◌∙◌, ap, length}
use Rattle.std.proofs.lemmas.List.{length_push}
use Rattle.shared_walks.proofs.AllNumbers.{keys_more}
use Rattle.shared_walks.proofs.outward.keys_of.Goals as goal

pub loop-number-preserved : goal.loop-number-preserved
loop-number-preserved c =
    let inv = c.loop-number.invariant in
    record {
      all = keys_more c.loop-number.number c.loop-number.keys.items c.push_reserved.new.self.items _ c.push_reserved.ensures.items refl inv.all;
      count = ap length c.push_reserved.ensures.items ∙ length_push c.loop-number.keys.items _ ∙ ap (λ k. k + 1) inv.count;
      room = c.push_reserved.ensures.capacity ∙ inv.room;
    }
