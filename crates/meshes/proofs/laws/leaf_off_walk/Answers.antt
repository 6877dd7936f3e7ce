use Rattle.meshes.proofs.TreeLeaves.{leaf_off_walk}
use Rattle.meshes.proofs.laws.leaf_off_walk.Goals as goal

pub returns : goal.returns
returns c = leaf_off_walk
