use Rattle.std.proofs.Common.{ℕ, ◌+◌, ◌*◌, ◌<◌, ◌≤◌, length, slice_index}
use Rattle.rel_hull.proofs.rounds.first_start.Given as goal
use Rattle.rel_hull.specs.Table.{HasChainsBelow}
use Rattle.rel_hull.specs.Told.{StartsTold}

abbrev pub invariant-loop-s : goal.invariant-loop-s
invariant-loop-s g l = record {
  none : (k : ℕ) → k < l.s-index → ¬ StartsTold l.chains l.outer (slice_index l.outer k);
  steps : (d : ℕ) → HasChainsBelow d l.chains → l.steps ≤ l.fn.steps + l.s-index * (2 * length l.outer * (d + 8));
}
