use Rattle.std.proofs.Common.{arith}
use Rattle.dual_tree.proofs.search.held.Goals as goal

pub returns-clause-left : goal.returns-clause-left
returns-clause-left g c =
    omega (arith, c.loop-k.invariant.left, c.loop-k.invariant.tried, c.requires.few)
