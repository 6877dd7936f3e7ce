use Rattle.std.proofs.Common.{◌≡◌, ◌<◌, true, false, length, slice_index_or}
use Rattle.shared_walks.proofs.marks.pass.Given as goal

abbrev pub invariant-loop-passed : goal.invariant-loop-passed
invariant-loop-passed l = record {
  size : length l.passed ≡ length l.order;
  within : l.place < length l.order;
  root : slice_index_or l.passed 0 false ≡ true;
}

abbrev pub decreases-loop-passed : goal.decreases-loop-passed
decreases-loop-passed l = l.place
