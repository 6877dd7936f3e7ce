use Rattle.guards3.proofs.OneGuards.{one_guards_law}
use Rattle.guards3.proofs.laws.one_guards.Goals as goal

pub returns : goal.returns
returns c = one_guards_law
