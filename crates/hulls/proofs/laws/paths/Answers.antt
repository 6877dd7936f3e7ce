use Rattle.hulls.proofs.Entrances.{paths}
use Rattle.hulls.proofs.laws.paths.Goals as goal

pub returns : goal.returns
returns c = paths
