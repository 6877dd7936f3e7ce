use Rattle.std.proofs.Common.{◌≡◌, ◌+◌, ◌*◌, ◌-◌, ◌≤◌}
use Rattle.edge_index.proofs.runs.Run.over.Given as goal
use Rattle.edge_index.specs.Runs.{IsRun}

abbrev pub invariant-loop-k : goal.invariant-loop-k
invariant-loop-k g l = record {
  run : IsRun l.points l.edges l.run;
  first : l.run.first ≡ l.first;
  end : l.run.end ≡ l.k;
  within : l.k - l.first ≤ l.end - l.first;
  steps : l.steps ≤ l.fn.steps + 256 * (l.k - l.first);
}
