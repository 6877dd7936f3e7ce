use Rattle.std.proofs.Common.{◌≡◌, true}
use Rattle.rings.proofs.Turned.{turned_begin, turned_end}
use Rattle.ring_check.proofs.ring.Ring.given_edge.Goals as goal

pub returns-then-self-clause-turned : goal.returns-then-self-clause-turned
returns-then-self-clause-turned c =
    let ring = c.args.self.now in
    let turned : ring.is_turned ≡ true = cc in
    rw (c.len.ensures.number, turned) (λ _. (turned_begin ring.corners c.args.i c.requires, turned_end ring.corners c.args.i c.requires))
