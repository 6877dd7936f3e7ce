use Rattle.rel_hull.proofs.Paths.{keeps_chains}
use Rattle.rel_hull.proofs.table.ChainTable.of.Goals as goal

pub invariant_of-result : goal.invariant_of-result
invariant_of-result c = keeps_chains c.args.ring.now.corners _ c.requires c.len-ring_is_simple.ensures.size.0 c.len-ring_is_simple.ensures.simple
