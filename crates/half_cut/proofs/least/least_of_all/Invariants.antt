use Rattle.std.proofs.Common.{◌+◌, ◌<◌, ◌≤◌, ℕ, length}
use Rattle.plane.specs.Convex.{corner}
use Rattle.plane.specs.Order.{Precedes}
use Rattle.half_cut.proofs.least.least_of_all.Given as goal

abbrev pub invariant-loop-i : goal.invariant-loop-i
invariant-loop-i g l = record {
  within : l.best < length l.corners.items;
  none : (k : ℕ) → k < l.i → ¬ (Precedes (corner l.corners.items k) (corner l.corners.items l.best));
  steps : l.steps + 1 ≤ l.fn.steps + l.i;
}
