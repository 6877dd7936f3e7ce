use Rattle.rings.proofs.Views.{view_law}
use Rattle.rings.proofs.laws.seen_in_parts.Goals as goal

pub returns : goal.returns
returns c = view_law
