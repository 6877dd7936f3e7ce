use Rattle.funnels.proofs.OneChain.{no_closed_chain}
use Rattle.funnels.proofs.laws.no_closed_chain.Goals as goal

pub returns : goal.returns
returns c = no_closed_chain
