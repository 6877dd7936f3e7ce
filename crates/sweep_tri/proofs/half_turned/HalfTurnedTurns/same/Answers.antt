use Rattle.std.proofs.Common.{ap}
use Rattle.exact_plane.specs.Spot.{point_named}
use Rattle.exact_plane.specs.declared.turns.Spot.{Spot}
use Rattle.sweep_tri.proofs.HalfTurns.{named_turned, same_before}
use Rattle.sweep_tri.proofs.half_turned.HalfTurnedTurns.same.Goals as goal
use Rattle.sweep_tri.specs.HalfTurn.{half_turned}

pub returns-clause-same : goal.returns-clause-same
returns-clause-same g c =
    let board = c.args.self.now.board.now in
    let at = λ (spot : Spot). point_named (g.T.Turns.corners board) (g.T.Turns.start board) (g.T.Turns.goal board) spot in
    let named = λ (spot : Spot). named_turned (g.T.Turns.corners board) (g.T.Turns.start board) (g.T.Turns.goal board) spot in
    rw (named c.args.a, named c.args.b) (
      λ true. ap half_turned (c.same.ensures.same.0 true),
      λ same. c.same.ensures.same.1 (same_before (at c.args.a) (at c.args.b) same),
    )
