use Rattle.std.proofs.Common.{◌≡◌, ◌+◌, ◌*◌, ◌≤◌, length}
use Rattle.edge_index.proofs.index.slabs_of.Given as goal

abbrev pub invariant-loop-e : goal.invariant-loop-e
invariant-loop-e g l = record {
  count : length l.slabs.items ≡ 17;
  steps : l.steps ≤ l.fn.steps + 128 * l.e;
}
