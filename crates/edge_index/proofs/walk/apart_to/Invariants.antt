use Rattle.std.proofs.Common.{◌-◌, length}
use Rattle.edge_index.proofs.walk.apart_to.Given as goal

abbrev pub decreases-loop-k : goal.decreases-loop-k
decreases-loop-k l = length l.runs - l.k
