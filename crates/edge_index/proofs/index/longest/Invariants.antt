use Rattle.std.proofs.Common.{◌+◌, ◌*◌, ◌-◌, ◌≤◌}
use Rattle.edge_index.proofs.index.longest.Given as goal

abbrev pub invariant-loop-k : goal.invariant-loop-k
invariant-loop-k g l = record {
  within : l.k - l.first ≤ l.end - l.first;
  steps : l.steps ≤ l.fn.steps + 128 * (l.k - l.first);
}
