use Rattle.std.proofs.Common.{ℕ, ◌+◌, ◌<◌, length, arith, below_more}
use Rattle.rings.specs.Simple.{Clash}
use Rattle.ring_check.proofs.SharedPoints.{least_from}
use Rattle.ring_check.proofs.clash.least_clash.Goals as goal
use Rattle.ring_check.proofs.clash.least_clash.Goals.{else-not-is_clear, then-not-is_clear+in_default}

pub returns-in-Some-clause-least : goal.returns-in-Some-clause-least
returns-in-Some-clause-least g c =
    let found = c.in-Some.ensures in
    least_from c.args.points.now c.loop-i.i c.in-Some.j found.range.0 found.range.1 found.clash c.loop-i.invariant.none found.least

pub loop-i-preserved : goal.loop-i-preserved
loop-i-preserved g c =
    let ring = c.args.points.now in
    let i = c.loop-i.i in
    let had = c.loop-i.invariant in
    let none_more : ((k : ℕ) → i < k → k < length ring → Clash ring i k → ⊥) → (h k : ℕ) → h < i + 1 → h < k → k < length ring → Clash ring h k → ⊥ =
    λ none h k below. below_more (λ (h : ℕ). (k : ℕ) → h < k → k < length ring → Clash ring h k → ⊥) i (λ h b k. had.none h k b) none h below k in
    elim c.if-not-is_clear.branch [
      | then-not-is_clear+in_default w ↦ record {
        none = none_more w.in_default.ensures.none;
        steps = omega (arith, had.steps, c.is_clear.ensures.steps, w.least_clash_with.ensures.steps, w.steps-is);
      }
      | else-not-is_clear w ↦ record {
        none = none_more (c.is_clear.ensures.clear w.if-not-is_clear.false);
        steps = omega (arith, had.steps, c.is_clear.ensures.steps, w.steps-is);
      }
    ]

pub returns-clause-simple : goal.returns-clause-simple
returns-clause-simple g c = λ i j in_order in_ring. c.loop-i.invariant.none i j (omega (arith, c.loop-i.auto.i-end, c.loop-i-test.false, in_order, in_ring)) in_order in_ring
