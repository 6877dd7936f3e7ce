use Rattle.mono_fill.proofs.Turns.{counterclockwise_told}
use Rattle.mono_fill.proofs.stack.is_counterclockwise.Goals as goal

pub returns-clause-turn : goal.returns-clause-turn
returns-clause-turn g c =
    counterclockwise_told (g.T.Turns.corners c.args.board.now) c.args.tri.now c.requires.a c.requires.b c.requires.c
    c.turn-turn.result c.is_left.result c.turn-turn.ensures.turn c.is_left.ensures
