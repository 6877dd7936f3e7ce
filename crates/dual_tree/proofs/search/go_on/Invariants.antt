use Rattle.std.proofs.Common.{◌+◌, ◌≤◌}
use Rattle.dual_tree.proofs.search.go_on.Given as goal

abbrev pub invariant-leaves : goal.invariant-leaves
invariant-leaves g l = record {
  no_more : l.cursor.spared ≤ l.initial.cursor.spared;
  paid : l.steps + l.cursor.spared ≤ l.initial.steps + l.initial.cursor.spared;
}

abbrev pub decreases-leaves : goal.decreases-leaves
decreases-leaves g l = l.cursor.spared
