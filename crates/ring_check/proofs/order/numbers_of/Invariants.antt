use Rattle.std.proofs.Common.{◌≡◌, ◌≤◌, length, map, take}
use Rattle.std.specs.Prelude.{vec_capacity}
use Rattle.ring_check.specs.Keys.{keyed_number}
use Rattle.ring_check.proofs.order.numbers_of.Given as goal

abbrev pub invariant-loop-key : goal.invariant-loop-key
invariant-loop-key l = record {
  numbers : l.numbers.items ≡ map keyed_number (take l.key-index l.keys);
  room : length l.keys ≤ vec_capacity l.numbers;
}
