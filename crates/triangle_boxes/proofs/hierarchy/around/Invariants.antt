use Rattle.std.proofs.Common.{◌+◌, ◌-◌, ◌*◌, ◌≤◌}
use Rattle.triangle_boxes.proofs.hierarchy.around.Given as goal

abbrev pub invariant-loop-i : goal.invariant-loop-i
invariant-loop-i g l = l.steps + 4 ≤ l.fn.steps + 12 * (l.i - l.first)
