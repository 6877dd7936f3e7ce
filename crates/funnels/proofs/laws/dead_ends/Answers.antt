use Rattle.funnels.proofs.DeadEnds.{dead_ends}
use Rattle.funnels.proofs.laws.dead_ends.Goals as goal

pub returns : goal.returns
returns c = dead_ends
