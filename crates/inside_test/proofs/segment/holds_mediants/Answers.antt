use Rattle.std.proofs.Common.{◌≡◌, ◌+◌, ◌*◌, ◌-◌, ◌≤◌, length, arith}
use Rattle.std.proofs.Math.Nat.{mul-le-mul_left}
use Rattle.std.proofs.lemmas.List.Sorted.{all_adjacent_more}
use Rattle.inside_test.proofs.Adjacent.{adjacent_at, adjacent_from}
use Rattle.inside_test.proofs.Neighbours.{MediantIn}
use Rattle.inside_test.proofs.segment.holds_mediants.Goals as goal

pub returns-then-not-holds_mediant-clause-hold : goal.returns-then-not-holds_mediant-clause-hold
returns-then-not-holds_mediant-clause-hold g c = (
  λ h. absurd (cc h),
  λ all. absurd (cc (
    c.holds_mediant.ensures.holds.1
        (adjacent_at (MediantIn c.args.ring.now.corners) c.args.points.now c.loop-i.i c.index-points-i.result c.index-points-i-in-loop-i.result
        (omega arith) (omega arith) c.index-points-i.is c.index-points-i-in-loop-i.is all),
    c.if-not-holds_mediant.true,
  )),
)

pub returns-then-not-holds_mediant-clause-steps : goal.returns-then-not-holds_mediant-clause-steps
returns-then-not-holds_mediant-clause-steps g c =
    let before = c.loop-i.invariant in
    let each = 1280 * length c.args.ring.now.corners + 65 in
    let fewer : c.loop-i.i - 1 + 1 ≤ length c.args.points.now - 1 = omega (arith, c.loop-i-test.true, c.loop-i.auto.i) in
    omega (arith, before.steps, c.holds_mediant.ensures.steps, mul-le-mul_left each fewer)

pub loop-i-preserved : goal.loop-i-preserved
loop-i-preserved g c =
    let before = c.loop-i.invariant in
    let next : c.loop-i.i + 1 - 1 ≡ c.loop-i.i - 1 + 1 = omega (arith, c.loop-i.auto.i) in
    record {
      hold = all_adjacent_more c.args.points.now (MediantIn c.args.ring.now.corners) c.loop-i.i (omega arith) before.hold
          (adjacent_from (MediantIn c.args.ring.now.corners) c.args.points.now c.loop-i.i c.index-points-i.result c.index-points-i-in-loop-i.result
          (omega arith) (omega arith) c.index-points-i.is c.index-points-i-in-loop-i.is (c.holds_mediant.ensures.holds.0 c.if-not-holds_mediant.false));
      within = omega (arith, c.loop-i-test.true);
      steps = rw next (omega (arith, before.steps, c.holds_mediant.ensures.steps));
    }

pub returns-clause-steps : goal.returns-clause-steps
returns-clause-steps g c =
    let before = c.loop-i.invariant in
    let each = 1280 * length c.args.ring.now.corners + 65 in
    omega (arith, before.steps, mul-le-mul_left each before.within)
