use Rattle.std.proofs.Common.{◌+◌, ◌*◌, ◌-◌, ◌≤◌, length}
use Rattle.see_cone.proofs.reached.reach_seen.Given as goal
use Rattle.see_cone.specs.Reached.{AreDone, AreReached}

abbrev pub invariant-loop-place : goal.invariant-loop-place
invariant-loop-place g l = record {
  are : AreReached l.ring.corners l.mesh l.q l.reached.items l.place;
  done : AreDone l.mesh l.reached.items l.place;
  place : l.place ≤ length l.reached.items;
  steps : l.steps + 5 ≤ l.fn.steps + 5 * length l.reached.items;
}

abbrev pub decreases-loop-place : goal.decreases-loop-place
decreases-loop-place g l = length l.mesh - l.place
