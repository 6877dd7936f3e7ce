use Rattle.std.proofs.Common.{refl, sym, ◌∙◌}
use Rattle.std.proofs.lemmas.Bool.{false≢true}
use Rattle.exact_plane.specs.Spot.{point_named}
use Rattle.funnels.proofs.Trees.{before_at_home}
use Rattle.path_tree.proofs.growth.straight.Goals as goal

pub returns-else-same-clause-before : goal.returns-else-same-clause-before
returns-else-same-clause-before g c tris k fits within in_start in_triangle =
    let corners = g.T.Turns.corners c.args.board.now in
    let start = g.T.Turns.start c.args.board.now in
    let y = point_named corners start (g.T.Turns.goal c.args.board.now) c.args.y in (
      start,
      refl,
      before_at_home corners tris fits k within start y in_start in_triangle
          (λ same. false≢true (sym c.if-same.false ∙ c.same.ensures.same.1 same)),
    )
