use Rattle.std.proofs.Common.{length, ap, arith}
use Rattle.shared_seq.specs.Tree.{lent_at, tree_at}
use Rattle.shared_seq.proofs.Turns.{without_first, without_first_height}
use Rattle.shared_seq.proofs.joining.+without_first.Goals as goal

pub balance_with-requires : goal.balance_with-requires
balance_with-requires g t c =
    let fork = rw (c.deref.ensures, c.in-Some.is) at c.parts-value.ensures.fork in
    let grown = c.in_ok-first.ensures.height in
    record {
      short = omega (arith, fork.long, fork.short, ap length c.in_ok-first.ensures.items);
      near = (omega (arith, fork.near.0, grown.0), omega (arith, fork.near.1, grown.1));
    }

pub returns-clause-items : goal.returns-clause-items
returns-clause-items g t c =
    let it = c.parts-value.result in
    without_first c.in-Some.left.now.value (lent_at it.other) (tree_at c.in_ok-first.left) c.args.tree.now.value _ c.in_ok-first.first it.value
    (rw (c.deref.ensures, c.in-Some.is) at c.parts-value.ensures.fork) c.in_ok-first.ensures.items c.in_ok-rest.ensures.joined

pub returns-clause-height : goal.returns-clause-height
returns-clause-height g t c =
    let it = c.parts-value.result in
    without_first_height c.in-Some.left.now.value (lent_at it.other) (tree_at c.in_ok-first.left) c.args.tree.now.value _ it.value
    (rw (c.deref.ensures, c.in-Some.is) at c.parts-value.ensures.fork) c.in_ok-first.ensures.height c.in_ok-rest.ensures.joined

pub returns-clause-steps : goal.returns-clause-steps
returns-clause-steps g t c =
    let fork = rw (c.deref.ensures, c.in-Some.is) at c.parts-value.ensures.fork in
    omega (arith, fork.height, c.parts-value.ensures.steps, c.without_first.ensures.steps, c.balance_with.ensures.steps)
