use Rattle.dual_tree.proofs.FullLists.{full_without_straight}
use Rattle.dual_tree.proofs.laws.full_without_straight.Goals as goal

pub returns : goal.returns
returns c = full_without_straight
