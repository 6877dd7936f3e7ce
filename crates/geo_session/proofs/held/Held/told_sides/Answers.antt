use Rattle.std.proofs.Common.{◌≡◌, ◌+◌, arith, length}
use Rattle.rel_hull.proofs.Costs.{one_more, within_rounds}
use Rattle.geo_session.proofs.Hulls.{ends_numbered}
use Rattle.geo_session.proofs.Spanned.{sides_more}
use Rattle.geo_session.proofs.held.Held.told_sides.Goals as goal

pub loop-pair-preserved : goal.loop-pair-preserved
loop-pair-preserved g c =
    record {
      are = rw c.push_reserved.ensures.items
          (sides_more c.args.version c.args.self.now.ring.corners c.args.span.now c.args.pairs.now c.loop-pair.pair-index c.loop-pair.told.items
          c.in_ok-told_side.field-0 c.loop-pair.invariant.are c.in_ok-told_side.ensures.told);
      room = rw c.push_reserved.ensures.capacity c.loop-pair.invariant.room;
      steps = one_more _ _ _ c.loop-pair.pair-index _ c.loop-pair.invariant.steps c.told_side.ensures.steps;
    }

pub push_reserved-requires : goal.push_reserved-requires
push_reserved-requires g c =
    omega (arith, c.loop-pair.invariant.are.count, c.loop-pair.invariant.room, c.loop-pair-test.true, c.loop-pair.told.ok.0)

pub returns-clause-told : goal.returns-clause-told
returns-clause-told g c =
    let end : c.loop-pair.pair-index ≡ length c.args.pairs.now = omega (arith, c.loop-pair.auto.pair-index-end, c.loop-pair-test.false) in
    rw end at c.loop-pair.invariant.are

pub told_side-requires-clause-ends : goal.told_side-requires-clause-ends
told_side-requires-clause-ends g c =
    ends_numbered c.args.self.now.ring c.args.self.now.tris c.requires.0 c.args.span.now c.requires.1.0 c.args.pairs.now c.requires.1.1
    c.loop-pair.pair-index c.loop-pair-test.true

pub returns-in_err-told_side-clause-steps : goal.returns-in_err-told_side-clause-steps
returns-in_err-told_side-clause-steps g c =
    within_rounds _ _ (c.loop-pair.pair-index + 1) _ _
    (one_more _ _ _ c.loop-pair.pair-index _ c.loop-pair.invariant.steps c.told_side.ensures.steps) (omega (arith, c.loop-pair-test.true))

pub returns-clause-steps : goal.returns-clause-steps
returns-clause-steps g c = within_rounds _ _ c.loop-pair.pair-index _ _ c.loop-pair.invariant.steps c.loop-pair.auto.pair-index-end
