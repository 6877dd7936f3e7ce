use Rattle.std.proofs.Common.{ℕ, ◌+◌, ◌*◌, ◌<◌, ◌≤◌, length}
use Rattle.rings.specs.Simple.{Clash}
use Rattle.ring_check.proofs.clash.least_clash.Given as goal

abbrev pub invariant-loop-i : goal.invariant-loop-i
invariant-loop-i g l =
    let n = length l.points in record {
      none : (h k : ℕ) → h < l.i → h < k → k < n → Clash l.points h k → ⊥;
      steps : l.steps ≤ l.fn.steps + l.i * (52 * n + 257);
    }
