use Rattle.sweep_tri.proofs.Closing.{closed_one}
use Rattle.sweep_tri.specs.Region.{IsClosedRegion}
use Rattle.sweep_tri.proofs.gap.Gap.meet.Goals as goal

pub close-requires-clause-closed : goal.close-requires-clause-closed
close-requires-clause-closed g c =
    rw (c.in_ok-extend-in-Some.ensures, c.ordered-closed.ensures.at, c.opposite.ensures)
    (closed_one (IsClosedRegion (g.T.Turns.corners c.args.ring.now.board.now) c.args.ring.now.rank.now) c.args.side c.args.self.low c.args.self.high c.in-Some.high c.args.v
    c.in-Some.is c.requires.closed)
