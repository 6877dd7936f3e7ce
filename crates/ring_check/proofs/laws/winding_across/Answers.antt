use Rattle.rings.proofs.Crossings.{winding_law_crossed}
use Rattle.rings.proofs.Vertices.{closed_edges_of}
use Rattle.ring_check.proofs.laws.winding_across.Goals as goal

pub returns : goal.returns
returns c = λ ring before after e p q split at_p at_q first last crosses.
    let closed = rw split at (closed_edges_of ring) in
    rw split (winding_law_crossed p q at_p at_q before after e closed first last crosses)
