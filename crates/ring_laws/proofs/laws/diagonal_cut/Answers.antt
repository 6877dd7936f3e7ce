use Rattle.ring_laws.proofs.Cuts.{cut_law}
use Rattle.ring_laws.proofs.laws.diagonal_cut.Goals as goal

pub returns : goal.returns
returns c = λ ring some. cut_law ring
