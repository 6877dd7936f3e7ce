use Rattle.hulls.proofs.Cones.{same_side_of_joined}
use Rattle.hulls.proofs.laws.same_side.Goals as goal

pub returns : goal.returns
returns c = same_side_of_joined
