use Rattle.std.proofs.Common.{◌≡◌, ◌+◌, ◌<◌, ap, arith, length, subst}
use Rattle.std.proofs.lemmas.List.{get_or_read}
use Rattle.plane.specs.Point.{whole}
use Rattle.rings.specs.Inside.{IsIn}
use Rattle.rings.specs.Ring.{origin}
use Rattle.dual_tree.specs.Location.{IsLeastHolding}
use Rattle.rel_hull.proofs.Costs.{one_more, within_rounds}
use Rattle.geo_session.proofs.GivenPath.{in_given_iff}
use Rattle.geo_session.proofs.Spanned.{held_more, inside_more}
use Rattle.geo_session.proofs.held.Held.located.Goals as goal
use Rattle.geo_reply.proofs.Fronts.{none_of_err}

pub returns-in-Err-clause-located : goal.returns-in-Err-clause-located
returns-in-Err-clause-located g c =
    let held = c.args.self.now in
    let points = c.args.points.now in
    let below : c.loop-k.k < length points = omega arith in
    let found = rw c.in-Err.is at c.find.ensures.found in
    record {
      k = c.loop-k.k;
      first = record {
        in_list = below;
        outside = subst (λ p. ¬ IsIn held.ring.corners (whole p)) (get_or_read points c.loop-k.k c.index-points-k.result below c.index-points-k.is origin)
            (λ inside. found.0 ((in_given_iff held.ring _).1 inside));
        before = c.loop-k.invariant.inside;
      };
      named = found.1;
    }

pub loop-k-preserved : goal.loop-k-preserved
loop-k-preserved g c =
    let ring = c.args.self.now.ring.corners in
    let tris = c.args.self.now.tris in
    let points = c.args.points.now in
    let below : c.loop-k.k < length points = omega arith in
    record {
      held = rw c.push_reserved.ensures.items
          (held_more ring tris points c.loop-k.k c.loop-k.tris.items c.loop-k.invariant.held c.in-Ok.tri
          (subst (λ p. IsLeastHolding ring tris (whole p) c.in-Ok.tri)
          (get_or_read points c.loop-k.k c.index-points-k.result below c.index-points-k.is origin) (rw c.in-Ok.is at c.find.ensures.found).1));
      inside = inside_more ring points c.loop-k.k c.loop-k.invariant.inside
          (subst (λ p. IsIn ring (whole p)) (get_or_read points c.loop-k.k c.index-points-k.result below c.index-points-k.is origin)
          ((in_given_iff c.args.self.now.ring _).0 (rw c.in-Ok.is at c.find.ensures.found).0));
      room = rw c.push_reserved.ensures.capacity c.loop-k.invariant.room;
      steps = one_more _ _ _ c.loop-k.k _ c.loop-k.invariant.steps (omega (arith, c.find.ensures.steps));
    }

pub push_reserved-requires : goal.push_reserved-requires
push_reserved-requires g c =
    omega (arith, c.loop-k.invariant.held.one_each, c.loop-k.invariant.room, c.loop-k-test.true, c.loop-k.tris.ok.0)

pub returns-in_err-tris-clause-located : goal.returns-in_err-tris-clause-located
returns-in_err-tris-clause-located g c =
    none_of_err _ c.from_residual.result c.from_residual.ensures.0

pub returns-clause-located : goal.returns-clause-located
returns-clause-located g c =
    let end : c.loop-k.k ≡ length c.args.points.now = omega arith in
    rw end at c.loop-k.invariant.held

pub bounds-points-k : goal.bounds-points-k
bounds-points-k g c =
    omega arith

pub loop-k-init : goal.loop-k-init
loop-k-init g c = record {
  held = record { one_each = ap length c.in_ok-tris.ensures.items; each = λ k below. absurd (omega (arith, below)) };
  inside = λ j less. absurd (omega (arith, less));
  room = c.in_ok-tris.ensures.capacity;
  steps = omega arith;
}

pub returns-in-Err-clause-steps : goal.returns-in-Err-clause-steps
returns-in-Err-clause-steps g c =
    within_rounds _ _ (c.loop-k.k + 1) _ _ (one_more _ _ _ c.loop-k.k _ c.loop-k.invariant.steps (omega (arith, c.find.ensures.steps))) (omega arith)

pub returns-clause-steps : goal.returns-clause-steps
returns-clause-steps g c = within_rounds _ _ c.loop-k.k _ _ c.loop-k.invariant.steps (omega arith)
