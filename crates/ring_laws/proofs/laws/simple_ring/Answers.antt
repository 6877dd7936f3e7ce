use Rattle.ring_laws.proofs.Simple.{simple_ring_law}
use Rattle.ring_laws.proofs.laws.simple_ring.Goals as goal

pub returns : goal.returns
returns c = simple_ring_law
