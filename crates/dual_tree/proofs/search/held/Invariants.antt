use Rattle.std.proofs.Common.{◌+◌, ◌-◌, ◌*◌, ◌≤◌}
use Rattle.dual_tree.proofs.search.held.Given as goal

abbrev pub invariant-loop-k : goal.invariant-loop-k
invariant-loop-k g l = record {
  tried : l.k ≤ l.first + l.count;
  no_more : l.cursor.spared ≤ l.initial.cursor.spared;
  left : l.initial.cursor.spared ≤ l.cursor.spared + 3 * (l.k - l.first);
  paid : l.steps + l.cursor.spared ≤ l.initial.steps + l.initial.cursor.spared;
}
