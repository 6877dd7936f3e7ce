use Rattle.hulls.proofs.Turning.{exchanged, exchanged_back, not_both}
use Rattle.hulls.proofs.laws.exchange.Goals as goal

pub returns : goal.returns
returns c = λ ring a b c. ((exchanged ring a b c, exchanged_back ring a c b), not_both ring a b c)
