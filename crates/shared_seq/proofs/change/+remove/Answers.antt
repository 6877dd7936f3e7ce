use Rattle.std.proofs.Common.{◌≡◌, ◌<◌, ◌≤◌, length, rules, ◌∙◌}
use Rattle.std.proofs.lemmas.Result.{IfOk-weaker}
use Rattle.std.specs.List.{remove}
use Rattle.shared_seq.specs.Tree.{IsWay, lent_at, tree_at}
use Rattle.shared_seq.proofs.Places.{removed, removed_between}
use Rattle.shared_seq.proofs.change.+remove.Goals as goal

pub returns-in_default-clause-items : goal.returns-in_default-clause-items
returns-in_default-clause-items g t c =
    let it = c.way-side.result in
    let way : IsWay c.args.tree.now.value c.args.i it.side (lent_at it.part) it.value (lent_at it.other) it.at = search rules in
    let past : length (lent_at it.part).items ≤ it.at = search rules in
    IfOk-weaker c.both.result _ _ (λ new joined. joined ∙ removed_between it.side c.args.tree.now.value (lent_at it.part) (lent_at it.other) it.value c.args.i it.at way c.requires past) c.both.ensures.items

pub returns-in_ok-joined-in-Some-clause-items : goal.returns-in_ok-joined-in-Some-clause-items
returns-in_ok-joined-in-Some-clause-items g t c =
    let it = c.way-side.result in
    let way : IsWay c.args.tree.now.value c.args.i it.side (lent_at it.part) it.value (lent_at it.other) it.at = search rules in
    let changed : (tree_at c.in_ok-inner-in-Some.inner).items ≡ remove (lent_at it.part).items it.at = search rules in
    let within : it.at < length (lent_at it.part).items = search rules in
    removed it.side _ _ _ it.value c.args.i it.at way (tree_at c.in_ok-inner-in-Some.inner) _ c.in_ok-joined-in-Some.ensures.joined changed within
