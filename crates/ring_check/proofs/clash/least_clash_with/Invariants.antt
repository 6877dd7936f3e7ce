use Rattle.std.proofs.Common.{ℕ, ◌+◌, ◌*◌, ◌<◌, ◌≤◌}
use Rattle.rings.specs.Simple.{Clash}
use Rattle.ring_check.proofs.clash.least_clash_with.Given as goal

abbrev pub invariant-loop-j : goal.invariant-loop-j
invariant-loop-j g l = record {
  none : (m : ℕ) → l.i < m → m < l.j → Clash l.points l.i m → ⊥;
  steps : l.steps + 18 * (l.i + 1) ≤ l.fn.steps + 18 * l.j;
}
