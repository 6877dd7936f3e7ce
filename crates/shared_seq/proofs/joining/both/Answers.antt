use Rattle.std.proofs.Common.{length, ap, arith}
use Rattle.shared_seq.specs.Tree.{lent_at, tree_at}
use Rattle.shared_seq.proofs.Turns.{joined_height, joined_items}
use Rattle.shared_seq.proofs.joining.both.Goals as goal

pub balance_beside-requires : goal.balance_beside-requires
balance_beside-requires g c =
    let short = rw c.in-Some.is at c.requires.short in
    let near = rw c.in-Some.is at c.requires.near in
    let grown = c.in_ok-first.ensures.height in
    record {
      short = omega (arith, short, ap length c.in_ok-first.ensures.items);
      near = (omega (arith, near.0, grown.1), omega (arith, near.1, grown.0));
    }

pub returns-clause-items : goal.returns-clause-items
returns-clause-items g c =
    rw c.in-Some.is (joined_items (lent_at c.args.left) c.in-Some.right.now.value (tree_at c.in_ok-first.rest) _ c.in_ok-first.first c.in_ok-first.ensures.items
    c.in_ok-joined.ensures.joined)

pub returns-clause-height : goal.returns-clause-height
returns-clause-height g c =
    rw c.in-Some.is (joined_height (lent_at c.args.left) c.in-Some.right.now.value (tree_at c.in_ok-first.rest) _ c.in_ok-first.first
    (rw c.in-Some.is at c.requires.near) c.in_ok-first.ensures.height c.in_ok-joined.ensures.joined)

pub returns-clause-steps : goal.returns-clause-steps
returns-clause-steps g c = rw c.in-Some.is (omega (arith, c.without_first.ensures.steps, c.balance_beside.ensures.steps))
