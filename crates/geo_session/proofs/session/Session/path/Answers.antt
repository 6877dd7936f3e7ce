use Rattle.std.proofs.Common.{◌≡◌, refl, rules}
use Rattle.geo_text.specs.Version.{version_of}
use Rattle.geo_session.proofs.GivenSize.{size_held}
use Rattle.geo_session.proofs.session.Session.path.Goals as goal

pub returns-in-Some-clause-answer : goal.returns-in-Some-clause-answer
returns-in-Some-clause-answer g c =
    let is : c.version.result ≡ version_of c.self.inside.two = search rules in
    rw (← c.self.view_is, c.in-Some.is) (rw is at c.path.ensures.answer)

pub returns-in-None-clause-answer : goal.returns-in-None-clause-answer
returns-in-None-clause-answer g c = rw (← c.self.view_is, c.in-None.is) refl

pub returns-in-Some-clause-steps : goal.returns-in-Some-clause-steps
returns-in-Some-clause-steps g c =
    let is : c.version.result ≡ version_of c.self.inside.two = search rules in
    rw (← c.self.view_is, c.in-Some.is, size_held c.in-Some.held) (rw is at c.path.ensures.steps)
