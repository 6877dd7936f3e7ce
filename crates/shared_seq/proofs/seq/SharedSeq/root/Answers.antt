use Rattle.std.proofs.Common.{◌≡◌, rules}
use Rattle.shared_seq.specs.Tree.{IsBalancedTree, lent_at}
use Rattle.shared_seq.proofs.Heights.{height_digits}
use Rattle.shared_seq.proofs.seq.SharedSeq.root.Goals as goal

pub returns-clause-height : goal.returns-clause-height
returns-clause-height c =
    let root = lent_at c.as_ref.result in
    let tree : IsBalancedTree root = search rules in
    let items : root.items ≡ c.args.self.now = search rules in
    rw (← items) (height_digits root tree)
