use Rattle.std.proofs.Common.{◌≡◌, ◌+◌, length, map, vec_capacity}
use Rattle.shared_walks.proofs.outward.keys_of.Given as goal
use Rattle.shared_walks.specs.Several.{AreAllNumbers}

abbrev pub invariant-loop-number : goal.invariant-loop-number
invariant-loop-number l = record {
  all : AreAllNumbers l.number (map (λ key. key.number) l.keys.items);
  count : length l.keys.items ≡ l.number;
  room : vec_capacity l.keys ≡ length l.tris + 1;
}
