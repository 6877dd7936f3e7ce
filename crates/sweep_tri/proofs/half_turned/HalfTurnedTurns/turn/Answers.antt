use Rattle.std.proofs.Common.{ap, sym, ◌∙◌}
use Rattle.exact_plane.specs.Direction.{direction_of}
use Rattle.exact_plane.specs.Spot.{point_named}
use Rattle.exact_plane.specs.declared.turns.Spot.{Spot}
use Rattle.plane.specs.Point.{whole}
use Rattle.sweep_tri.proofs.HalfTurns.{determinant_turned, named_turned}
use Rattle.sweep_tri.proofs.half_turned.HalfTurnedTurns.turn.Goals as goal

pub returns-clause-turn : goal.returns-clause-turn
returns-clause-turn g c =
    let board = c.args.self.now.board.now in
    let at = λ (spot : Spot). point_named (g.T.Turns.corners board) (g.T.Turns.start board) (g.T.Turns.goal board) spot in
    let named = λ (spot : Spot). named_turned (g.T.Turns.corners board) (g.T.Turns.start board) (g.T.Turns.goal board) spot in
    rw (named c.args.a, named c.args.b, named c.args.c)
    (c.turn.ensures.turn ∙ ap direction_of (sym (determinant_turned (whole (at c.args.a)) (whole (at c.args.b)) (whole (at c.args.c)))))
