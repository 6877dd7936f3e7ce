use Rattle.std.proofs.Common.{◌≡◌, ◌+◌, ◌*◌, ◌≤◌, length}
use Rattle.std.specs.Prelude.{vec_capacity}
use Rattle.ring_check.specs.Keys.{AreKeys}
use Rattle.ring_check.proofs.order.keys_of.Given as goal

abbrev pub invariant-loop-number : goal.invariant-loop-number
invariant-loop-number g l = record {
  keys : AreKeys l.points l.number l.keys.items;
  room : length l.points ≤ vec_capacity l.keys;
  steps : l.steps ≡ l.fn.steps + 64 * l.number;
}
