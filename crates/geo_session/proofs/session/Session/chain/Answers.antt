use Rattle.std.proofs.Common.{arith, refl}
use Rattle.geo_session.proofs.GivenSize.{size_held}
use Rattle.geo_session.proofs.session.Session.chain.Goals as goal

pub returns-in-Some-clause-answer : goal.returns-in-Some-clause-answer
returns-in-Some-clause-answer g c = rw (← c.self.view_is, c.in-Some.is) c.path.ensures.answer

pub returns-in-None-clause-answer : goal.returns-in-None-clause-answer
returns-in-None-clause-answer g c = rw (← c.self.view_is, c.in-None.is) refl

pub returns-in-Some-clause-steps : goal.returns-in-Some-clause-steps
returns-in-Some-clause-steps g c = rw (← c.self.view_is, c.in-Some.is, size_held c.in-Some.held) (omega (arith, c.path.ensures.steps))

pub returns-in-Some-clause-memory : goal.returns-in-Some-clause-memory
returns-in-Some-clause-memory g c = rw (← c.self.view_is, c.in-Some.is, size_held c.in-Some.held) (c.path.ensures.memory refl)
