use Rattle.shared_seq.specs.Tree.{lent_at}
use Rattle.shared_seq.proofs.change.+insert.Given as goal

abbrev pub decreases-insert : goal.decreases-insert
decreases-insert g l = (lent_at l.tree).height
