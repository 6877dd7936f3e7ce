use Rattle.std.proofs.Common.{◌≡◌, ◌+◌, ◌*◌, ◌≤◌, length}
use Rattle.std.specs.List.{All}
use Rattle.edge_index.proofs.index.refill.Given as goal
use Rattle.edge_index.specs.Runs.{IsRun}

abbrev pub invariant-loop-k : goal.invariant-loop-k
invariant-loop-k g l = record {
  runs : All (IsRun l.points l.edges) l.runs.items;
  count : length l.runs.items ≡ length l.fn.runs.items;
  steps : l.steps ≤ l.fn.steps + 3072 * l.k;
}
