use Rattle.rings.proofs.Full.{one_full}
use Rattle.rings.proofs.laws.one_full.Goals as goal

pub returns : goal.returns
returns c = one_full
