use Rattle.std.proofs.Common.{Ok, Err, refl}
use Rattle.geo_c.specs.Held.{talk_of}
use Rattle.geo_c.specs.Told.{IsPlaceGiven, TellsPlace}
use Rattle.geo_c.proofs.Crossed.{two_back}
use Rattle.geo_c.proofs.session.geo_session_inside.Goals as goal

pub returns-in-Ok-clause-answer : goal.returns-in-Ok-clause-answer
returns-in-Ok-clause-answer c =
    two_back (λ x y. TellsPlace (talk_of c.args.session.now.held) (record { x = x; y = y }) (IsPlaceGiven 0 c.args.place.now c.place_of.result))
    c.args.x c.args.y c.ranges.x c.ranges.y (record { found = Ok c.in-Ok.position; holds = c.in-Ok.ensures.answer; given = (refl, c.place_of.ensures) })

pub returns-in-Err-clause-answer : goal.returns-in-Err-clause-answer
returns-in-Err-clause-answer c =
    two_back (λ x y. TellsPlace (talk_of c.args.session.now.held) (record { x = x; y = y }) (IsPlaceGiven c.status_of.result c.args.place.now c.args.place.now))
    c.args.x c.args.y c.ranges.x c.ranges.y (record { found = Err c.in-Err.bad; holds = c.in-Err.ensures.answer; given = (c.status_of.ensures.refusal, refl) })
