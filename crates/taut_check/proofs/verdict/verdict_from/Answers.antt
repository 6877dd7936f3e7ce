use Rattle.std.proofs.Common.{ℕ, ◌+◌, ◌*◌, ◌<◌, ◌≤◌, arith, below_more, length}
use Rattle.std.proofs.lemmas.Bool.Decides.{nat_tests}
use Rattle.std.proofs.lemmas.Nat.{mul-le}
use Rattle.taut_check.proofs.Verdicts.{taut_found, unbroken, verdict_found}
use Rattle.taut_check.proofs.verdict.verdict_from.Goals as goal
use Rattle.taut_check.specs.Sound.{IsSound}

pub returns-in-Some-clause-verdict : goal.returns-in-Some-clause-verdict
returns-in-Some-clause-verdict g c =
    let found = rw c.in-Some.is at c.in_ok-verdict.ensures.found in
    verdict_found c.args.ring.now.corners c.args.chain.now c.loop-k.k c.loop-k-test.true c.in-Some.verdict found.0 found.1 c.loop-k.invariant.sound

pub returns-in-Some-clause-bent : goal.returns-in-Some-clause-bent
returns-in-Some-clause-bent g c =
    let found = rw c.in-Some.is at c.in_ok-verdict.ensures.found in
    taut_found c.args.ring.now.corners c.args.chain.now c.loop-k.k c.loop-k-test.true c.in-Some.verdict found.0 found.1

pub loop-k-init : goal.loop-k-init
loop-k-init g c = record { sound = c.requires.sound; steps = λ most asks. omega arith }

pub loop-k-preserved : goal.loop-k-preserved
loop-k-preserved g c =
    let before = c.loop-k.invariant in
    record {
      sound = below_more (IsSound c.args.ring.now.corners c.args.chain.now) c.loop-k.k before.sound (rw c.in_default.is at c.in_ok-verdict.ensures.found);
      steps = λ most asks. omega (arith, before.steps most asks, c.verdict_at.ensures.steps most asks);
    }

-- one point more is within what all points take
within_all : (each k count old now new : ℕ) → now ≤ old + each * k → new ≤ now + each → k < count → new ≤ old + each * count
within_all each k count old now new before more below =
    omega (arith, before, more, mul-le each (k + 1) each count (omega arith) (omega (arith, below)))

pub returns-in-Some-clause-steps : goal.returns-in-Some-clause-steps
returns-in-Some-clause-steps g c = λ most asks.
    within_all _ _ _ _ _ _ (c.loop-k.invariant.steps most asks) (c.verdict_at.ensures.steps most asks) c.loop-k-test.true

pub returns-in_err-verdict-clause-steps : goal.returns-in_err-verdict-clause-steps
returns-in_err-verdict-clause-steps g c = λ most asks.
    within_all _ _ _ _ _ _ (c.loop-k.invariant.steps most asks) (c.verdict_at.ensures.steps most asks) c.loop-k-test.true

pub returns-clause-steps : goal.returns-clause-steps
returns-clause-steps g c = λ most asks.
    let each = most + 2 * length c.args.ring.now.corners + 8 in
    let few : each * c.loop-k.k ≤ each * length c.args.chain.now = mul-le each c.loop-k.k each (length c.args.chain.now) (omega arith) (omega (arith, c.loop-k.auto.k-end)) in
    omega (arith, c.loop-k.invariant.steps most asks, few)

pub returns-clause-verdict : goal.returns-clause-verdict
returns-clause-verdict g c =
    let some : 0 < length c.args.chain.now = grind (arith, nat_tests) in
    unbroken c.args.ring.now.corners c.args.chain.now some (λ k below. c.loop-k.invariant.sound k (omega arith))
