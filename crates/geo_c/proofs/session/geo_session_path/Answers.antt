use Rattle.geo_c.specs.Held.{talk_of}
use Rattle.geo_c.specs.Told.{ArePointsGiven, TellsPathResult}
use Rattle.geo_c.proofs.Crossed.{four_back}
use Rattle.geo_c.proofs.session.geo_session_path.Goals as goal

pub returns-clause-answer : goal.returns-clause-answer
returns-clause-answer c ended =
    four_back (λ x y z w. TellsPathResult (talk_of c.args.session.now.held) (record { x = x; y = y }) (record { x = z; y = w }) (ArePointsGiven c.path.result c.args.needed.now c.path.new.needed c.args.points.now c.path.new.points))
    c.args.from_x c.args.from_y c.args.to_x c.args.to_y c.ranges.from_x c.ranges.from_y c.ranges.to_x c.ranges.to_y (c.path.ensures.answer ended)
