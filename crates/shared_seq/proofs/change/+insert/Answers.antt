use Rattle.std.proofs.lemmas.Result.{IfOk-weaker}
use Rattle.shared_seq.specs.Tree.{lent_at}
use Rattle.shared_seq.proofs.Places.{inserted}
use Rattle.shared_seq.proofs.change.+insert.Goals as goal

pub returns-clause-items : goal.returns-clause-items
returns-clause-items g t c =
    let it = c.way-side.result in
    rw c.in-Some.is (IfOk-weaker c.balance_with.result _ _
    (λ new joined. inserted it.side c.in-Some.tree.now.value (lent_at it.part) (lent_at it.other) it.value c.args.i it.at (rw c.deref.ensures at c.way-side.ensures.way)
    c.in_ok-part.part.value new.value joined c.args.value c.in_ok-part.ensures.items)
    c.balance_with.ensures.joined)
