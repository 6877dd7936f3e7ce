use Rattle.std.proofs.Common.{◌≡◌, ◌≢◌, rules}
use Rattle.std.proofs.lemmas.Result.{IfOk-weaker}
use Rattle.shared_seq.specs.Tree.{IsWay, lent_at}
use Rattle.shared_seq.proofs.Places.{kept_alone, kept_joined}
use Rattle.shared_seq.proofs.cutting.+piece.Goals as goal

pub returns-then-is-clause-piece : goal.returns-then-is-clause-piece
returns-then-is-clause-piece g t c =
    let it = c.way-side.result in
    let same : it.side ≡ c.args.kept = search rules in
    let way : IsWay (lent_at c.args.tree) c.args.i it.side (lent_at it.part) it.value (lent_at it.other) it.at = search rules in
    kept_alone _ _ _ c.in_ok-inner.inner.value it.value c.args.i it.at c.args.value c.args.kept (rw same at way) c.in_ok-inner.ensures.piece

pub returns-clause-piece : goal.returns-clause-piece
returns-clause-piece g t c =
    let it = c.way-side.result in
    let apart : c.args.kept ≢ it.side = search rules in
    let way : IsWay (lent_at c.args.tree) c.args.i it.side (lent_at it.part) it.value (lent_at it.other) it.at = search rules in
    IfOk-weaker c.join.result _ _
    (λ new joined. kept_joined _ _ _ _ it.value c.args.i it.at c.args.value c.args.kept it.side new.value apart way c.in_ok-inner.ensures.piece (rw c.in_ok-other.ensures at joined))
    c.join.ensures.joined
