use Rattle.geo_c.specs.Held.{talk_of}
use Rattle.geo_c.specs.Told.{ArePointsGiven, TellsReach}
use Rattle.geo_c.proofs.Crossed.{two_back}
use Rattle.geo_c.proofs.session.geo_session_reach.Goals as goal

pub returns-clause-answer : goal.returns-clause-answer
returns-clause-answer c ended =
    two_back (λ x y. TellsReach (talk_of c.args.session.now.held) (record { x = x; y = y }) (ArePointsGiven c.reach.result c.args.needed.now c.reach.new.needed c.args.points.now c.reach.new.points))
    c.args.to_x c.args.to_y c.ranges.to_x c.ranges.to_y (c.reach.ensures.answer ended)
