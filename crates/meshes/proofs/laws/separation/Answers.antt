use Rattle.meshes.proofs.Sight.{separation_law}
use Rattle.meshes.proofs.laws.separation.Goals as goal

pub returns : goal.returns
returns c = separation_law
