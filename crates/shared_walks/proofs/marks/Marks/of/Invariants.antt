use Rattle.std.proofs.Common.{◌≡◌, true, false, length, slice_index_or}
use Rattle.shared_walks.proofs.marks.Marks.of.Given as goal

abbrev pub invariant-loop-key : goal.invariant-loop-key
invariant-loop-key l = record {
  size : length l.passed.items ≡ length l.rooted.order.now;
  root : slice_index_or l.passed.items 0 false ≡ true;
}
