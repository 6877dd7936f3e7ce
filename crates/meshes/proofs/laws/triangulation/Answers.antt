use Rattle.meshes.proofs.Triangulations.{triangulation}
use Rattle.meshes.proofs.laws.triangulation.Goals as goal

pub returns : goal.returns
returns c = triangulation
