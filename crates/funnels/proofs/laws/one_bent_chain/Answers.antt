use Rattle.funnels.proofs.OneChain.{one_bent_chain}
use Rattle.funnels.proofs.laws.one_bent_chain.Goals as goal

pub returns : goal.returns
returns c = one_bent_chain
