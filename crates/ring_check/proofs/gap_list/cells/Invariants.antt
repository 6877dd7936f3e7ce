use Rattle.std.proofs.Common.{◌-◌, ◌≤◌, length}
use Rattle.ring_check.proofs.gap_list.cells.Given as goal

abbrev pub invariant-loop-run : goal.invariant-loop-run
invariant-loop-run l = length l.cells.items ≤ l.room

abbrev pub decreases-loop-run : goal.decreases-loop-run
decreases-loop-run l = l.room - length l.cells.items
