use Rattle.std.proofs.Common.{ℕ, ◌+◌, ◌*◌, ◌<◌, ◌≤◌, slice_index}
use Rattle.rel_hull.proofs.hull.is_side.Given as goal
use Rattle.rel_hull.specs.Table.{HasChainsBelow}
use Rattle.rel_hull.specs.Told.{IsLeftOf}

abbrev pub invariant-loop-u : goal.invariant-loop-u
invariant-loop-u g l = record {
  left : (k : ℕ) → k < l.u-index → IsLeftOf l.chains l.s l.t (slice_index l.outer k);
  steps : (d : ℕ) → HasChainsBelow d l.chains → l.steps ≤ l.fn.steps + l.u-index * (d + 8);
}
