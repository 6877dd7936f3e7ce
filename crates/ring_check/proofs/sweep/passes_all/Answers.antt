use Rattle.std.proofs.Common.{◌≡◌, ◌*◌, ◌^◌, ℕ, ◌+◌, List, below_more, arith, refl}
use Rattle.std.proofs.Math.Nat.{mul-le-mul_right}
use Rattle.std.proofs.lemmas.Nat.{pow-add}
use Rattle.rings.proofs.Sweeps.{empty_status, simple_of_swept}
use Rattle.rings.specs.Status.{IsStatus}
use Rattle.ring_check.proofs.sweep.passes_all.Goals as goal

pub loop-k-init : goal.loop-k-init
loop-k-init g c =
    let e = c.args.events.now in
    record {
      status = empty_status e.points.now e.ranks.now c.args.status c.requires;
      passed = λ k below. absurd (omega (arith, below));
      few = omega (arith, c.requires);
      steps = λ d below. omega arith;
    }

pub loop-k-preserved : goal.loop-k-preserved
loop-k-preserved g c =
    let e = c.args.events.now in
    let had = c.loop-k.invariant in
    let held = c.if-not-passes.ensures.status refl in
    record {
      status = held;
      passed = below_more (λ (k : ℕ). (status : List ℕ) × IsStatus e.points.now e.ranks.now (k + 1) status) c.loop-k.k had.passed (c.passes.new.status, held);
      few = omega (arith, had.few, c.if-not-passes.ensures.length refl);
      steps = λ d below.
          let twice : 2 ^ (d + 1) ≡ 2 ^ d * 2 = pow-add 2 d 1 in
          omega (arith, had.steps d below, c.passes.ensures.steps (d + 1) (omega (arith, had.few, below, twice, c.loop-k-test.true)));
    }

pub returns-then-not-passes-clause-steps : goal.returns-then-not-passes-clause-steps
returns-then-not-passes-clause-steps g c = λ d below.
    let had = c.loop-k.invariant in
    let twice : 2 ^ (d + 1) ≡ 2 ^ d * 2 = pow-add 2 d 1 in
    let within = mul-le-mul_right (2 * d + 12) c.loop-k-test.true in
    omega (arith, had.steps d below, within, c.passes.ensures.steps (d + 1) (omega (arith, had.few, below, twice, c.loop-k-test.true)))

pub returns-clause-simple : goal.returns-clause-simple
returns-clause-simple g c = λ _.
    let e = c.args.events.now in
    let size = e.are.all_ranks in
    simple_of_swept e.points.now e.order.now e.ranks.now e.are e.three
    (λ k within. c.loop-k.invariant.passed k (omega (arith, within, size, c.loop-k-test.false)))
