use Rattle.shared_seq.specs.Tree.{lent_at}
use Rattle.shared_seq.proofs.joining.+hang.Given as goal

abbrev pub decreases-hang : goal.decreases-hang
decreases-hang g l = (lent_at l.high).height
