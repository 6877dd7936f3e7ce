use Rattle.rings.proofs.Crossings.{in_law, misses_swapped}
use Rattle.rings.specs.Edge.{edges_of}
use Rattle.ring_check.proofs.laws.crossing_parity.Goals as goal

pub returns : goal.returns
returns c = λ ring p q at_p at_q misses. (in_law ring p q at_p at_q misses, in_law ring q p at_q at_p (misses_swapped p q (edges_of ring) misses))
