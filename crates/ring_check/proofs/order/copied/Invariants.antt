use Rattle.std.proofs.Common.{◌≡◌, ◌+◌, ◌≤◌, length, take}
use Rattle.std.specs.Prelude.{vec_capacity}
use Rattle.ring_check.proofs.order.copied.Given as goal

abbrev pub invariant-loop-number : goal.invariant-loop-number
invariant-loop-number g l = record {
  same : l.copy.items ≡ take l.number-index l.order;
  room : length l.order ≤ vec_capacity l.copy;
  steps : l.steps ≡ l.fn.steps + l.number-index;
}
