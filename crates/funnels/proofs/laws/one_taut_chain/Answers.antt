use Rattle.funnels.proofs.OneChain.{one_taut_chain}
use Rattle.funnels.proofs.laws.one_taut_chain.Goals as goal

pub returns : goal.returns
returns c = one_taut_chain
