use Rattle.hulls.proofs.Outer.{outer_pair}
use Rattle.hulls.proofs.laws.outer_pair.Goals as goal

pub returns : goal.returns
returns c = outer_pair
