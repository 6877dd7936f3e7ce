use Rattle.shared_seq.specs.Tree.{lent_at}
use Rattle.shared_seq.proofs.cutting.+piece.Given as goal

abbrev pub decreases-piece : goal.decreases-piece
decreases-piece g l = (lent_at l.tree).height
