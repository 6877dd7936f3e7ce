use Rattle.rel_hull.proofs.Closing.{one_round}
use Rattle.rel_hull.proofs.laws.one_round.Goals as goal

pub returns : goal.returns
returns c = one_round
