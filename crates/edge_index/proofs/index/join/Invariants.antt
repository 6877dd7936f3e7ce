use Rattle.std.proofs.Common.{ℕ, ◌≡◌, ◌*◌, ◌≤◌, List, length}
use Rattle.std.specs.List.{All}
use Rattle.plane.specs.Point.{Point}
use Rattle.edge_index.proofs.index.join.Given as goal
use Rattle.edge_index.specs.Runs.{IsRun}

abbrev pub invariant-loop-k : goal.invariant-loop-k
invariant-loop-k l = record {
  runs : (ring : List Point) (edges : List ℕ) → All (IsRun ring edges) l.fn.runs.items → All (IsRun ring edges) l.runs.items;
  count : length l.runs.items ≡ length l.fn.runs.items;
  within : 2 * l.k ≤ length l.runs.items;
}

abbrev pub decreases-loop-k : goal.decreases-loop-k
decreases-loop-k l = l.k
