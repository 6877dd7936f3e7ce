use Rattle.std.proofs.Common.{◌≡◌, ◌↔◌, ◌-◌, IsTrue, arith, rules}
use Rattle.plane.specs.Point.{whole}
use Rattle.funnels.proofs.Funnels.{passed_left, passed_right}
use Rattle.exact_plane.proofs.Directions.{not_left_iff, right_iff_negative}
use Rattle.exact_plane.specs.declared.direction.Direction.TheVariants.{Right}
use Rattle.exact_plane.specs.Spot.{point_named}
use Rattle.funnel_walk.proofs.PathNames.{name_is_point}
use Rattle.funnel_walk.proofs.funnel.is_passed.Goals as goal

pub returns-then-j-apex-clause-passed : goal.returns-then-j-apex-clause-passed
returns-then-j-apex-clause-passed g c =
    let at = point_named (g.T.Turns.corners c.args.board.now) (g.T.Turns.start c.args.board.now) (g.T.Turns.goal c.args.board.now) in
    let asked = rw c.turn.ensures.turn at c.is_not_left.ensures in
    let passed = passed_left _ c.args.apex c.args.j (whole (at c.args.y)) _ _ c.if-j-apex.true
    (name_is_point at c.args.names.now.items c.args.j _ c.requires.within c.name_at-right.ensures)
    (name_is_point at c.args.names.now.items (c.args.j - 1) _ (omega arith) c.name_at-left.ensures) in
    (λ h. passed.0 ((not_left_iff _).0 (asked.0 h)), λ h. asked.1 ((not_left_iff _).1 (passed.1 h)))

pub returns-else-j-apex-clause-passed : goal.returns-else-j-apex-clause-passed
returns-else-j-apex-clause-passed g c =
    let at = point_named (g.T.Turns.corners c.args.board.now) (g.T.Turns.start c.args.board.now) (g.T.Turns.goal c.args.board.now) in
    let turns : IsTrue c.eq.result ↔ (c.turn-else-j-apex.result ≡ Right) = search rules in
    let asked = rw c.turn-else-j-apex.ensures.turn at turns in
    let passed = passed_right _ c.args.apex c.args.j (whole (at c.args.y)) _ _ c.if-j-apex.false
    (name_is_point at c.args.names.now.items (c.args.j - 1) _ (omega arith) c.name_at-left.ensures)
    (name_is_point at c.args.names.now.items c.args.j _ c.requires.within c.name_at-right.ensures) in
    (λ h. passed.0 ((right_iff_negative _).0 (asked.0 h)), λ h. asked.1 ((right_iff_negative _).1 (passed.1 h)))
