use Rattle.std.proofs.Common.{◌≡◌, refl, rules}
use Rattle.geo_text.specs.Version.{version_of}
use Rattle.geo_reply.proofs.Fronts.{err_since}
use Rattle.geo_session.proofs.session.Session.ask.Goals as goal

pub returns-in_err-asked-clause-same_session : goal.returns-in_err-asked-clause-same_session
returns-in_err-asked-clause-same_session g c = err_since c.from_residual.result refl

pub returns-in_err-asked-clause-paced : goal.returns-in_err-asked-clause-paced
returns-in_err-asked-clause-paced g c =
    let is : c.version.result ≡ version_of c.self.inside.two = search rules in
    rw (← c.self.view_is) (rw is at c.ask.ensures.paced)

pub commit-requires : goal.commit-requires
commit-requires g c = c.in_ok-asked.ensures.asked.suits

pub returns-clause-reply : goal.returns-clause-reply
returns-clause-reply g c =
    let is : c.version.result ≡ version_of c.self.inside.two = search rules in
    rw (← c.self.view_is) (rw is at c.in_ok-asked.ensures.asked.is_reply)

pub returns-clause-state : goal.returns-clause-state
returns-clause-state g c =
    let is : c.version.result ≡ version_of c.self.inside.two = search rules in
    rw (← c.self.view_is, c.commit.ensures.version, c.commit.ensures.held) (rw is at c.in_ok-asked.ensures.asked.state)

pub returns-clause-prepared : goal.returns-clause-prepared
returns-clause-prepared g c = rw (← c.self.view_is, c.commit.ensures.held) c.in_ok-asked.ensures.asked.prepared

pub returns-clause-same_session : goal.returns-clause-same_session
returns-clause-same_session g c = tt

pub returns-clause-paced : goal.returns-clause-paced
returns-clause-paced g c =
    let is : c.version.result ≡ version_of c.self.inside.two = search rules in
    rw (← c.self.view_is) (rw is at c.in_ok-asked.ensures.paced)
