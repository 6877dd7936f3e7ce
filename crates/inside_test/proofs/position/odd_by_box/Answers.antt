use Rattle.std.proofs.Common.{arith}
use Rattle.inside_test.proofs.Blocks.{block_crossed, block_missed}
use Rattle.inside_test.proofs.position.odd_by_box.Goals as goal

pub returns-then-misses-clause-odd : goal.returns-then-misses-clause-odd
returns-then-misses-clause-odd g c = λ p levels rational.
    let around = rw c.corners.ensures at c.of-around.ensures in
    block_missed c.args.ring.now.corners c.args.first c.args.end c.requires.some
    (omega (arith, c.requires.within, c.len.ensures.number, c.if-end-len.false))
    c.of-around.result around.within around.limits p rational (c.misses.ensures c.if-misses.true p levels)

pub returns-then-is_left_of_all-clause-odd : goal.returns-then-is_left_of_all-clause-odd
returns-then-is_left_of_all-clause-odd g c = λ p levels rational.
    let around = rw c.corners.ensures at c.of-around.ensures in
    block_crossed c.args.ring.now.corners c.args.first c.args.end c.requires.some
    (omega (arith, c.requires.within, c.len.ensures.number, c.if-end-len.false))
    c.of-around.result around.within around.limits p rational (c.is_left_of_all.ensures c.if-is_left_of_all.true p levels)
    c.is_below-begins_above.result c.is_below-ends_above.result (rw c.corner.ensures at (c.is_below-begins_above.ensures.below p levels))
    (rw c.corner-then-is_left_of_all.ensures at (c.is_below-ends_above.ensures.below p levels))
