use Rattle.std.proofs.Common.{◌≡◌, ◌↔◌, ap, IsTrue, arith, rules}
use Rattle.plane.specs.Point.{whole}
use Rattle.funnels.proofs.Funnels.{passed_left, passed_right}
use Rattle.exact_plane.proofs.Directions.{not_left_iff, right_iff_negative}
use Rattle.exact_plane.specs.declared.direction.Direction.TheVariants.{Right}
use Rattle.exact_plane.specs.Spot.{point_named}
use Rattle.path_tree.proofs.funnel.Funnel.is_passed.Goals as goal

pub returns-then-edge-self-clause-passed : goal.returns-then-edge-self-clause-passed
returns-then-edge-self-clause-passed g c some =
    let corners = g.T.Turns.corners c.args.board.now in
    let start = g.T.Turns.start c.args.board.now in
    let end = g.T.Turns.goal c.args.board.now in
    let asked = rw c.turn.ensures.turn at c.is_not_left.ensures in
    let passed = passed_left _ c.args.self.now.apex c.args.edge.place (whole (point_named corners start end c.args.y)) _ _
    (omega (arith, c.if-edge-self.true, ap (λ l. l.apex) c.self.view_is))
    (c.name-right.ensures.point corners start end c.requires.count) (c.name-left.ensures.point corners start end c.requires.count) in
    (λ h. passed.0 ((not_left_iff _).0 (asked.0 h)), λ h. asked.1 ((not_left_iff _).1 (passed.1 h)))

pub returns-else-edge-self-clause-passed : goal.returns-else-edge-self-clause-passed
returns-else-edge-self-clause-passed g c some =
    let corners = g.T.Turns.corners c.args.board.now in
    let start = g.T.Turns.start c.args.board.now in
    let end = g.T.Turns.goal c.args.board.now in
    let turns : IsTrue c.eq.result ↔ (c.turn-else-edge-self.result ≡ Right) = search rules in
    let asked = rw c.turn-else-edge-self.ensures.turn at turns in
    let passed = passed_right _ c.args.self.now.apex c.args.edge.place (whole (point_named corners start end c.args.y)) _ _
    (omega (arith, c.if-edge-self.false, ap (λ l. l.apex) c.self.view_is))
    (c.name-left.ensures.point corners start end c.requires.count) (c.name-right.ensures.point corners start end c.requires.count) in
    (λ h. passed.0 ((right_iff_negative _).0 (asked.0 h)), λ h. asked.1 ((right_iff_negative _).1 (passed.1 h)))
