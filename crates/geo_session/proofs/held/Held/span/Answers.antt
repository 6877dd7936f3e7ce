use Rattle.std.proofs.Common.{arith, length}
use Rattle.geo_session.proofs.HullSteps.{span_paid}
use Rattle.geo_session.specs.Span.{AreHeld}
use Rattle.geo_session.proofs.held.Held.span.Goals as goal

pub returns-in-Err-clause-numbered : goal.returns-in-Err-clause-numbered
returns-in-Err-clause-numbered g c = rw c.in-Err.is at c.in_ok-tris.ensures.located

pub returns-clause-numbered : goal.returns-clause-numbered
returns-clause-numbered g c =
    let held : AreHeld c.args.self.now.ring.corners c.args.self.now.tris c.args.points.now (length c.args.points.now) c.in-Ok.tris.items =
    rw c.in-Ok.is at c.in_ok-tris.ensures.located in
    record {
      some = c.requires.some;
      held = held;
      firsts = c.in_ok-numbers.ensures.firsts;
      few = omega (arith, c.requires.few, c.in_ok-numbers.ensures.few);
      no_more = c.in_ok-numbers.ensures.few;
      table = rw c.deref-2.ensures.value at c.in_ok-chains.ensures.table;
    }

pub returns-in_err-chains-clause-steps : goal.returns-in_err-chains-clause-steps
returns-in_err-chains-clause-steps g c =
    let few = rw (← c.deref-2.ensures.value) at c.in_ok-numbers.ensures.few in
    span_paid _ c.located.new.steps c.firsts.new.steps _ _ (length c.args.points.now) (length c.deref-2.result.now) c.located.ensures.steps c.firsts.ensures.steps
    c.chains.ensures.steps few

pub returns-clause-steps : goal.returns-clause-steps
returns-clause-steps g c =
    let few = rw (← c.deref-2.ensures.value) at c.in_ok-numbers.ensures.few in
    span_paid _ c.located.new.steps c.firsts.new.steps _ _ (length c.args.points.now) (length c.deref-2.result.now) c.located.ensures.steps c.firsts.ensures.steps
    c.chains.ensures.steps few
