use Rattle.rings.proofs.Simple.{apart_of_simple}
use Rattle.ring_laws.proofs.Diagonals.{cut_is_diagonal_at, some_cut}
use Rattle.ring_laws.proofs.laws.cut_rule.Goals as goal

pub returns-clause-some : goal.returns-clause-some
returns-clause-some c = some_cut

pub returns-clause-diagonal : goal.returns-clause-diagonal
returns-clause-diagonal c = λ ring some simple. cut_is_diagonal_at ring some (apart_of_simple ring simple)
