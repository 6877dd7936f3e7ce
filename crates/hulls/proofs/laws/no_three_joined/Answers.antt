use Rattle.hulls.proofs.Cones.{no_three_joined}
use Rattle.hulls.proofs.laws.no_three_joined.Goals as goal

pub returns : goal.returns
returns c = no_three_joined
