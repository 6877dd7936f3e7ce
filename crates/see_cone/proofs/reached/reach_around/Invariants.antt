use Rattle.std.proofs.Common.{ℕ, ◌+◌, ◌*◌, ◌<◌, ◌≤◌, length}
use Rattle.see_cone.proofs.reached.reach_around.Given as goal
use Rattle.see_cone.specs.Reached.{AreReached, IsBeyondFirst, IsReachGrown, IsSideReached, tri_there}

abbrev pub invariant-loop-side : goal.invariant-loop-side
invariant-loop-side g l = record {
  grown : IsReachGrown l.fn.reached.items l.reached.items (IsBeyondFirst l.mesh (tri_there l.fn.reached.items l.place) l.side);
  are : AreReached l.ring.corners l.mesh l.q l.reached.items (l.place + 1);
  done : (t : ℕ) → t < l.side → IsSideReached l.mesh l.reached.items (tri_there l.fn.reached.items l.place) t;
  each : l.steps + 5 * length l.fn.reached.items ≤ l.fn.steps + 5 * length l.reached.items;
  steps : l.steps ≤ l.fn.steps + 5 * l.side;
}
