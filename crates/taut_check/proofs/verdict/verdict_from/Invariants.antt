use Rattle.std.proofs.Common.{ℕ, ◌+◌, ◌*◌, ◌≤◌, length}
use Rattle.taut_check.proofs.verdict.verdict_from.Given as goal
use Rattle.taut_check.specs.Sound.{AreSoundBefore}

abbrev pub invariant-loop-k : goal.invariant-loop-k
invariant-loop-k g l = record {
  sound : AreSoundBefore l.ring.corners l.chain l.k;
  steps : (most : ℕ) → g.S.Sight.asks l.sight most → l.steps ≤ l.fn.steps + (most + 2 * length l.ring.corners + 8) * l.k;
}
