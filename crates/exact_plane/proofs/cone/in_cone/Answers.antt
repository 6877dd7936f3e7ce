use Rattle.plane.specs.Point.{whole}
use Rattle.exact_plane.proofs.Cones.{first_decides, second_decides}
use Rattle.exact_plane.proofs.cone.in_cone.Goals as goal

pub returns-then-not-turns-clause-cone : goal.returns-then-not-turns-clause-cone
returns-then-not-turns-clause-cone g c =
    second_decides (whole c.args.v.now) (whole c.args.a.now) (whole c.args.c.now) (whole c.args.u.now) c.requires.turns _ c.turn.ensures.turn _ c.opposite-against.ensures _ c.turns.ensures.turns
    c.if-not-turns.true _ c.turns-then-not-turns.ensures.turns

pub returns-else-not-turns-clause-cone : goal.returns-else-not-turns-clause-cone
returns-else-not-turns-clause-cone g c =
    first_decides (whole c.args.v.now) (whole c.args.a.now) (whole c.args.c.now) (whole c.args.u.now) c.requires.turns _ c.turn.ensures.turn _ c.opposite-against.ensures _ c.turns.ensures.turns
    c.if-not-turns.false
