use Rattle.hulls.proofs.Order.{ordered}
use Rattle.hulls.proofs.laws.one_order.Goals as goal

pub returns : goal.returns
returns c = ordered
