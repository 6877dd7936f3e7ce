use Rattle.std.proofs.Common.{ℕ, ◌+◌, ◌*◌, ◌^◌, ◌<◌, ◌≤◌, List, length}
use Rattle.rings.specs.Status.{IsStatus}
use Rattle.ring_check.proofs.sweep.passes_all.Given as goal

abbrev pub invariant-loop-k : goal.invariant-loop-k
invariant-loop-k g l = record {
  status : IsStatus l.events.points.now l.events.ranks.now l.k l.status;
  passed : (k : ℕ) → k < l.k → (status : List ℕ) × IsStatus l.events.points.now l.events.ranks.now (k + 1) status;
  few : length l.status ≤ 2 * l.k;
  steps : (d : ℕ) → length l.events.points.now < 2 ^ d → l.steps ≤ l.fn.steps + l.k * (2 * d + 12);
}
