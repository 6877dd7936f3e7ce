use Rattle.std.proofs.Common.{arith}
use Rattle.std.proofs.lemmas.Bool.{not-true}
use Rattle.inside_test.proofs.Blocks.{block_apart}
use Rattle.inside_test.proofs.edge_meetings.are_apart.Goals as goal

pub returns-clause-apart : goal.returns-clause-apart
returns-clause-apart g c = λ apart.
    let block = rw c.corners.ensures at c.of.ensures in
    block_apart c.args.ring.now.corners c.args.first c.args.end c.requires.some
    (omega (arith, c.requires.within, c.len.ensures.number, c.if-end-len.false)) c.of.result block.within block.limits c.args.around.now
    (λ overlap. absurd (cc (c.overlaps.ensures.1 overlap, not-true c.overlaps.result apart)))
