use Rattle.taut_check.proofs.Neighbours.{neighbour_iff}
use Rattle.taut_check.proofs.bend.neighbours.Goals as goal

pub returns : goal.returns
returns c =
    let ring = c.len-ring_is_simple.ensures in
    rw (c.previous.ensures, c.next.ensures) (neighbour_iff c.args.ring.now.corners ring.size.0 ring.simple c.args.i c.requires)
