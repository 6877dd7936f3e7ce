use Rattle.std.proofs.Common.{◌∙◌, ◌≤◌, ap, subst, length, arith}
use Rattle.std.proofs.lemmas.Bool.{le-leb, leb-true}
use Rattle.rings.specs.Simple.{IsSimple}
use Rattle.geo_session.proofs.SeenAlong.{sees_of_short, short_of_sees, unseen_outside}
use Rattle.geo_session.proofs.verdict.HeldSight.sees.Goals as goal

pub returns-in-Some-clause-sees : goal.returns-in-Some-clause-sees
returns-in-Some-clause-sees g c = λ ring of.
    let is = ap (λ held. held.ring.corners) c.self.view_is ∙ of in
    rw (← is) (rw c.in-Some.is at c.in_ok-sees.ensures.holds)

pub returns-in-Some-2-clause-sees : goal.returns-in-Some-2-clause-sees
returns-in-Some-2-clause-sees g c = λ ring of.
    let path = c.in-Some-2.path.items in
    let is_path = rw (c.in-Some-2.is, of) at c.in_ok-path.ensures.path in
    let is = ap (λ held. held.ring.corners) c.self.view_is ∙ of in
    let some = subst (λ ring. 3 ≤ length ring) is c.len-ring_is_simple.ensures.size.0 in
    let simple = subst IsSimple is c.len-ring_is_simple.ensures.simple in (
      λ short. sees_of_short ring c.args.p.now c.args.q.now path is_path (omega (arith, leb-true _ _ short, c.len.ensures)),
      λ sees. le-leb _ _ (omega (arith, c.len.ensures, short_of_sees ring c.args.p.now c.args.q.now path is_path some simple sees)),
    )

pub returns-in-None-clause-sees : goal.returns-in-None-clause-sees
returns-in-None-clause-sees g c = λ ring of.
    let outside = rw (c.in-None.is, of) at c.in_ok-path.ensures.none in
    (λ h. absurd (cc h), λ sees. absurd (unseen_outside ring c.args.p.now c.args.q.now outside sees))
