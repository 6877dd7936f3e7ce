use Rattle.hulls.proofs.Turning.{one_way}
use Rattle.hulls.proofs.laws.one_way.Goals as goal

pub returns : goal.returns
returns c = one_way
