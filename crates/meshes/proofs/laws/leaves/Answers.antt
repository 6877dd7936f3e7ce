use Rattle.meshes.proofs.TreeLeaves.{leaves_law}
use Rattle.meshes.proofs.laws.leaves.Goals as goal

pub returns : goal.returns
returns c = leaves_law
