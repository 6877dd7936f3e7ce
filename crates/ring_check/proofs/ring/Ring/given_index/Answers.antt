use Rattle.std.proofs.Common.{◌≡◌, true}
use Rattle.ring_check.proofs.Oriented.{turned_vertex}
use Rattle.ring_check.proofs.ring.Ring.given_index.Goals as goal

pub returns-then-self-clause-same : goal.returns-then-self-clause-same
returns-then-self-clause-same c =
    let ring = c.args.self.now in
    let turned : ring.is_turned ≡ true = cc in
    rw (c.len-n.ensures.number, turned) (turned_vertex ring.corners c.args.i c.requires)
