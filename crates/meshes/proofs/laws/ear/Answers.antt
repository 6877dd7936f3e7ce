use Rattle.meshes.proofs.Ears.{ear_law}
use Rattle.meshes.proofs.laws.ear.Goals as goal

pub returns : goal.returns
returns c = ear_law
