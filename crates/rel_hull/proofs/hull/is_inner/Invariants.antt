use Rattle.std.proofs.Common.{◌≢◌, ℕ, ◌+◌, ◌*◌, ◌<◌, ◌≤◌}
use Rattle.rel_hull.proofs.hull.is_inner.Given as goal
use Rattle.rel_hull.specs.Told.{IsPassedFrom}

abbrev pub invariant-loop-a : goal.invariant-loop-a
invariant-loop-a g l = record {
  none : (a : ℕ) → a < l.a → a ≢ l.s → ¬ IsPassedFrom l.chains a l.s;
  steps : l.steps ≤ l.fn.steps + l.a * (3 * l.chains.count);
}
