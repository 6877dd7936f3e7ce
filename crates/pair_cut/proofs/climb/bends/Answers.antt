use Rattle.std.proofs.Common.{rules, ◌≡◌, ◌↔◌, subst, IsTrue}
use Rattle.rings.proofs.Vertices.{vertex_in_range}
use Rattle.rings.specs.Ring.{origin}
use Rattle.pair_cut.proofs.climb.bends.Goals as goal

pub returns-clause-bends : goal.returns-clause-bends
returns-clause-bends g c =
    let corners = g.T.Turns.corners c.args.board.now in
    let turns : IsTrue c.eq.result ↔ (c.turn.result ≡ c.args.side) = search rules in
    rw (vertex_in_range corners c.args.a origin c.requires.a, vertex_in_range corners c.args.b origin c.requires.b, vertex_in_range corners c.args.c origin c.requires.c)
    (subst (λ turn. IsTrue c.eq.result ↔ (turn ≡ c.args.side)) c.turn.ensures.turn turns)
