use Rattle.dual_tree.proofs.NoPointTwice.{no_point_twice}
use Rattle.dual_tree.proofs.laws.no_point_twice.Goals as goal

pub returns : goal.returns
returns c = no_point_twice
