use Rattle.std.proofs.Common.{◌≡◌, ◌↔◌, IsTrue, rules}
use Rattle.exact_plane.specs.declared.direction.Direction.TheVariants.{Left}
use Rattle.sweep_tri.proofs.Search.{above_by_turn}
use Rattle.sweep_tri.proofs.status.is_over.Goals as goal

pub returns-clause-above : goal.returns-clause-above
returns-clause-above g c =
    let corners = g.T.Turns.corners c.args.board.now in
    let turns : IsTrue c.eq.result ↔ (c.turn.result ≡ Left) = search rules in
    let above = above_by_turn corners (g.T.Turns.start c.args.board.now) (g.T.Turns.goal c.args.board.now) c.args.gap.now c.args.v
    c.low_front-from.result.0 c.low_front-from.result.1 c.turn.result c.requires.front c.requires.v c.low_front-from.ensures.from
    c.low_front-from.ensures.to c.turn.ensures.turn in
    (λ h. above.0 (turns.0 h), λ h. turns.1 (above.1 h))
