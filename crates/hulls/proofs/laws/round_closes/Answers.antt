use Rattle.hulls.proofs.Round.{round_closes}
use Rattle.hulls.proofs.laws.round_closes.Goals as goal
use Rattle.hulls.specs.Round.{holds}

pub returns : goal.returns
returns c = λ n left. round_closes n (holds left)
