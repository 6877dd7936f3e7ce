use Rattle.std.proofs.Common.{refl}
use Rattle.geo_session.proofs.GivenSize.{size_held}
use Rattle.geo_session.proofs.session.Session.place.Goals as goal

pub returns-in-Some-clause-answer : goal.returns-in-Some-clause-answer
returns-in-Some-clause-answer g c =
    rw (← c.self.view_is, c.in-Some.is) (record { value = c.place.result; holds = c.place.ensures.place; told = refl })

pub returns-in-None-clause-answer : goal.returns-in-None-clause-answer
returns-in-None-clause-answer g c = rw (← c.self.view_is, c.in-None.is) refl

pub returns-in-Some-clause-steps : goal.returns-in-Some-clause-steps
returns-in-Some-clause-steps g c = rw (← c.self.view_is, c.in-Some.is, size_held c.in-Some.held) c.place.ensures.steps
