use Rattle.hulls.proofs.Cones.{joined_one_side}
use Rattle.hulls.proofs.laws.one_side.Goals as goal

pub returns : goal.returns
returns c = joined_one_side
