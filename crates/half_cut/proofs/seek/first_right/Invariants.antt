use Rattle.std.proofs.Common.{◌+◌, ◌<◌, ◌≤◌, ℕ}
use Rattle.plane.specs.Convex.{corner}
use Rattle.half_cut.proofs.seek.first_right.Given as goal
use Rattle.half_cut.specs.Outline.{IsRightOf}

abbrev pub invariant-loop-i : goal.invariant-loop-i
invariant-loop-i g l = record {
  none : (k : ℕ) → k < l.i → ¬ IsRightOf l.line (corner l.corners.items k);
  steps : l.steps ≤ l.fn.steps + l.i;
}
