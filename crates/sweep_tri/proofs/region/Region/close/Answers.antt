use Rattle.sweep_tri.proofs.Pieces.{boundary_counterclockwise, boundary_long, boundary_monotone, boundary_numbers, boundary_simple}
use Rattle.sweep_tri.proofs.RankOrder.{ranks_are}
use Rattle.sweep_tri.proofs.region.Region.close.Goals as goal

pub fill-requires : goal.fill-requires
fill-requires g c =
    let corners = g.T.Turns.corners c.args.ring.now.board.now in
    let order = c.requires.ranked.order in
    let ranks = c.args.ring.now.rank.now in
    let events = c.requires.ranked.events in
    let some = c.requires.ranked.some in
    rw (c.deref.ensures.value, c.in_ok-piece.ensures) (record {
      ranks = ranks_are corners order ranks events some;
      some = boundary_long corners order ranks events some c.args.self c.requires.closed;
      numbers = boundary_numbers corners order ranks events some c.args.self c.requires.closed;
      simple = boundary_simple corners order ranks events some c.args.self c.requires.closed;
      counterclockwise = boundary_counterclockwise corners order ranks events some c.args.self c.requires.closed;
      monotone = boundary_monotone corners order ranks events some c.args.self c.requires.closed;
    })
