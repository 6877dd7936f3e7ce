use Rattle.std.proofs.Common.{rules}
use Rattle.geo_c.specs.Held.{talk_of}
use Rattle.geo_c.specs.Told.{ArePointsGiven, TellsReach}
use Rattle.geo_c.proofs.Crossed.{two_back}
use Rattle.geo_c.proofs.session.reach.Goals as goal

pub returns-in-Ok-clause-answer : goal.returns-in-Ok-clause-answer
returns-in-Ok-clause-answer g c ended =
    two_back (λ x y. TellsReach (talk_of c.args.session.now.held) (record { x = x; y = y }) (ArePointsGiven c.give.result c.args.needed.now c.give.new.needed c.args.points.now c.give.new.points))
    c.args.goal.0 c.args.goal.1 (search rules) (search rules) (record { found = c.in-Ok.found; holds = c.in-Ok.ensures.answer; given = c.give.ensures.given })
