use Rattle.std.proofs.Common.{◌≢◌, ℕ, ◌+◌, ◌*◌, ◌<◌, ◌≤◌}
use Rattle.rel_hull.proofs.hull.is_on_path_from.Given as goal
use Rattle.rel_hull.specs.Table.{chain_at, table_points}
use Rattle.rel_hull.specs.Told.{IsOnChain}
use Rattle.rings.specs.Chain.{point_at}

abbrev pub invariant-loop-b : goal.invariant-loop-b
invariant-loop-b g l = record {
  none : (b : ℕ) → b < l.b → b ≢ l.a → b ≢ l.s → ¬ IsOnChain (chain_at l.chains l.a b) (point_at (table_points l.chains) l.s);
  steps : l.steps ≤ l.fn.steps + 3 * l.b;
}
