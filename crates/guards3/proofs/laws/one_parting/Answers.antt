use Rattle.guards3.proofs.OneParting.{one_parting_law}
use Rattle.guards3.proofs.laws.one_parting.Goals as goal

pub returns : goal.returns
returns c = one_parting_law
