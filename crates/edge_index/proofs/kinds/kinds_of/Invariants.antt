use Rattle.std.proofs.Common.{◌≡◌, ◌+◌, ◌*◌, ◌<◌, ◌≤◌, length}
use Rattle.std.specs.List.{All}
use Rattle.std.specs.Prelude.{vec_capacity}
use Rattle.edge_index.proofs.kinds.kinds_of.Given as goal

abbrev pub invariant-loop-e : goal.invariant-loop-e
invariant-loop-e g l = record {
  count : length l.kinds.items ≡ l.e;
  kinds : All (λ kind. kind < 17) l.kinds.items;
  room : length l.points ≤ vec_capacity l.kinds;
  within : l.e ≤ length l.points;
  steps : l.steps ≤ l.fn.steps + (320 * length l.points + 128 * l.e);
}
