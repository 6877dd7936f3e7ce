use Rattle.std.proofs.Common.{arith}
use Rattle.half_cut.proofs.Blocks.{all_right, back_ends, block_between}
use Rattle.half_cut.proofs.block.block_of.Goals as goal

pub returns-then-ahead-n-clause-none : goal.returns-then-ahead-n-clause-none
returns-then-ahead-n-clause-none g c = all_right c.requires.gone c.run-ahead.ensures.run (omega arith)

pub overflow_sub-result-2 : goal.overflow_sub-result-2
overflow_sub-result-2 g c =
    let ends = back_ends c.requires.gone c.requires.right c.run-ahead.ensures.run (omega arith) c.run-back.ensures.run (omega arith) in
    omega arith

pub returns-clause-some : goal.returns-clause-some
returns-clause-some g c =
    block_between c.requires.gone c.requires.right c.run-ahead.ensures.run (omega arith) c.run-back.ensures.run (omega arith) _ _ c.round.ensures
    (omega arith)

pub returns-clause-steps : goal.returns-clause-steps
returns-clause-steps g c =
    let ends = back_ends c.requires.gone c.requires.right c.run-ahead.ensures.run (omega arith) c.run-back.ensures.run (omega arith) in
    omega arith
