use Rattle.std.proofs.Common.{ℕ, ◌<◌, below_more, arith}
use Rattle.rings.specs.Simple.{Clash}
use Rattle.ring_check.proofs.clash.least_clash_with.Goals as goal

pub loop-j-preserved : goal.loop-j-preserved
loop-j-preserved g c = record {
  none = λ m above below. below_more (λ (k : ℕ). c.args.i < k → Clash c.args.points.now c.args.i k → ⊥) c.loop-j.j (λ k b a. c.loop-j.invariant.none k a b)
      (λ _ clash. absurd (cc (c.edges_clash.ensures.clash.1 clash, c.if-edges_clash.false))) m below above;
  steps = omega (arith, c.loop-j.invariant.steps, c.edges_clash.ensures.steps);
}
