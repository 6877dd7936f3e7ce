use Rattle.std.proofs.Common.{refl, sym, ap, subst, length, arith}
use Rattle.plane.specs.Point.{whole}
use Rattle.ring_check.specs.Oriented.{given_of}
use Rattle.geo_reply.specs.declared.reply.Reply.TheVariants as reply
use Rattle.geo_session.proofs.GivenView.{given_few, view_given}
use Rattle.geo_session.proofs.Within.{one_in, one_out}
use Rattle.geo_session.specs.Parts.{given_parts}
use Rattle.geo_session.specs.View.{IsView}
use Rattle.geo_session.proofs.held.Held.view.Goals as goal

pub returns-in-Err-clause-view : goal.returns-in-Err-clause-view
returns-in-Err-clause-view g c =
    let found = rw c.in-Err.is at c.find.ensures.found in
    one_out (given_of c.args.self.now.ring) _ c.args.q.now c.in-Err.bad found.0 found.1

pub returns-clause-view : goal.returns-clause-view
returns-clause-view g c =
    let ring = c.self.inside.ring in
    let found = rw (c.in-Ok.is, ← c.self.view_is) at c.find.ensures.found in
    rw (← c.self.view_is)
    (one_in (given_of ring) _ c.args.q.now (reply.View c.of.result) found.0 (record {
      value = c.of.result;
      holds = subst (IsView (given_of ring) (whole c.args.q.now)) (sym (rw c.in_ok-given.ensures at c.of.ensures))
          (view_given ring (whole c.args.q.now) c.in_ok-parts.parts.items
          (record { seen = c.in_ok-parts.ensures.parts; view = c.in_ok-parts.ensures.view }));
      told = refl;
    }))

pub of-requires : goal.of-requires
of-requires g c =
    let ring = c.self.inside.ring in
    let parts = c.in_ok-parts.parts.items in
    let is = ap length c.in_ok-given.ensures in
    omega (
      arith,
      is,
      c.len-few_vertices.ensures.size.1,
      given_few ring (whole c.args.q.now) (given_parts ring parts)
          (view_given ring (whole c.args.q.now) parts (record { seen = c.in_ok-parts.ensures.parts; view = c.in_ok-parts.ensures.view })),
    )
