use Rattle.std.proofs.Common.{◌+◌, ◌*◌, ◌≤◌, length}
use Rattle.rel_hull.proofs.hull.outer_points.Given as goal
use Rattle.rel_hull.specs.Told.{AreOuterBelow}

abbrev pub invariant-loop-s : goal.invariant-loop-s
invariant-loop-s g l = record {
  outer : AreOuterBelow l.chains l.s l.outer.items;
  few : length l.outer.items ≤ l.s;
  steps : l.steps ≤ l.fn.steps + l.s * (3 * l.chains.count * l.chains.count);
}
