use Rattle.std.proofs.Common.{◌≡◌, ◌≤◌, ℕ, [], length, slice_index_or, vec_capacity}
use Rattle.shared_walks.proofs.paths.none_yet.Given as goal
use Rattle.shared_walks.specs.Several.{listed}

abbrev pub invariant-loop : goal.invariant-loop
invariant-loop l = record {
  count : length l.found.items ≡ l.counter;
  none : (k : ℕ) → length (slice_index_or (listed l.found.items) k []) ≡ 0;
  room : l.count ≤ vec_capacity l.found;
}
