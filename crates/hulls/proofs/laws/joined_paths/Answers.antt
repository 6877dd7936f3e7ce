use Rattle.hulls.proofs.Joined.{on_path_iff_joined}
use Rattle.hulls.proofs.laws.joined_paths.Goals as goal

pub returns : goal.returns
returns c = on_path_iff_joined
