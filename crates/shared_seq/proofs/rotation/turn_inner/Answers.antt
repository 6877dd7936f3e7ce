use Rattle.std.proofs.Common.{arith}
use Rattle.std.proofs.lemmas.Result.{IfOk-weaker}
use Rattle.shared_seq.specs.Tree.{lent_at, tree_at}
use Rattle.shared_seq.proofs.Turns.{turned_inner}
use Rattle.shared_seq.proofs.rotation.turn_inner.Goals as goal

pub beside-requires : goal.beside-requires
beside-requires g c =
    let fork = rw c.deref.ensures at c.parts-top.ensures.fork in
    rw c.in_ok-first.ensures (record {
      short = omega (arith, c.requires.short, fork.long);
      near = (omega (arith, fork.height, fork.near.0, c.requires.outer), omega (arith, fork.height, c.requires.outer));
    })

pub beside-requires-2 : goal.beside-requires-2
beside-requires-2 g c =
    let fork = rw c.deref.ensures at c.parts-top.ensures.fork in
    record {
      short = omega (arith, c.requires.short, fork.long);
      near = (omega (arith, fork.height, c.requires.low), omega (arith, fork.height, fork.near.1, fork.near.0, c.requires.low));
    }

pub fork-requires : goal.fork-requires
fork-requires g c =
    let fork = rw c.deref.ensures at c.parts-top.ensures.fork in
    let one = rw c.in_ok-first.ensures at c.in_ok-one.ensures.fork in
    let other = c.in_ok-other.ensures.fork in
    record {
      short = omega (arith, c.requires.short, fork.long, one.long, other.long);
      near = (
        omega (arith, fork.height, one.height, other.height, c.requires.outer, c.requires.low),
        omega (arith, fork.height, one.height, other.height, c.requires.outer, c.requires.low),
      );
    }

pub returns-clause-turned : goal.returns-clause-turned
returns-clause-turned g c =
    let it = c.parts-top.result in
    let fork = rw c.deref.ensures at c.parts-top.ensures.fork in
    IfOk-weaker c.fork.result _ _
    (λ new all. turned_inner c.args.outer.side (lent_at c.args.outer.part) (lent_at it.one) (lent_at it.other) c.args.inner.now.value (tree_at c.args.low)
    c.in_ok-one.one.value c.in_ok-other.other.value new.value c.args.outer.value it.value c.args.value fork c.requires.outer c.requires.low
    (rw c.in_ok-first.ensures at c.in_ok-one.ensures.fork) c.in_ok-other.ensures.fork all)
    c.fork.ensures.fork

pub returns-clause-steps : goal.returns-clause-steps
returns-clause-steps g c = omega (arith, c.parts-top.ensures.steps, c.beside.ensures.steps, c.beside-2.ensures.steps, c.fork.ensures.steps)
