use Rattle.std.proofs.Common.{◌≡◌, ◌+◌, length, take, vec_capacity}
use Rattle.shared_walks.proofs.serving.copied.Given as goal

abbrev pub invariant-loop-name : goal.invariant-loop-name
invariant-loop-name l = record {
  copied : l.copy.items ≡ take l.name-index l.names;
  room : vec_capacity l.copy ≡ length l.names + l.more;
}
