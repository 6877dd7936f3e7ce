use Rattle.std.proofs.Common.{◌≡◌, ◌-◌, ◌≤◌, ◌++◌}
use Rattle.std.specs.List.{range_with_len}
use Rattle.tri_mesh.proofs.search.newest.Given as goal

abbrev pub invariant-loop-place : goal.invariant-loop-place
invariant-loop-place l = record {
  low : l.first ≤ l.place;
  items : l.later.items ≡ l.initial.later.items ++ range_with_len l.first (l.place - l.first);
}
