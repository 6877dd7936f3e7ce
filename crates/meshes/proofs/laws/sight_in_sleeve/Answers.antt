use Rattle.meshes.proofs.Sight.{sleeve_law}
use Rattle.meshes.proofs.laws.sight_in_sleeve.Goals as goal

pub returns : goal.returns
returns c = sleeve_law
