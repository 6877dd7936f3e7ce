use Rattle.std.proofs.Common.{ℕ, ◌≡◌, ◌≤◌, List, length}
use Rattle.std.specs.List.{All}
use Rattle.std.specs.Prelude.{vec_capacity}
use Rattle.plane.specs.Point.{Point}
use Rattle.edge_index.proofs.index.empty_runs.Given as goal
use Rattle.edge_index.specs.Runs.{IsRun}

abbrev pub invariant-loop-made : goal.invariant-loop-made
invariant-loop-made l = record {
  runs : (ring : List Point) (edges : List ℕ) → All (IsRun ring edges) l.runs.items;
  count : length l.runs.items ≡ l.made;
  room : l.size ≤ vec_capacity l.runs;
}
