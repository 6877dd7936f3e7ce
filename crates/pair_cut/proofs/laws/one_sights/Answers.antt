use Rattle.pair_cut.proofs.PairOrder.{one_sights}
use Rattle.pair_cut.proofs.laws.one_sights.Goals as goal

pub returns : goal.returns
returns c = one_sights
