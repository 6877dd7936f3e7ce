use Rattle.std.proofs.Common.{◌+◌, ◌-◌, ◌*◌, ◌≤◌}
use Rattle.cut_tri.proofs.Candidates.{IsBestBelow}
use Rattle.cut_tri.proofs.farthest.farthest.Given as goal

abbrev pub invariant-loop-place : goal.invariant-loop-place
invariant-loop-place g l = record {
  best : IsBestBelow l.ring.corners l.piece l.place l.best;
  steps : l.steps ≤ l.fn.steps + 259 * (l.place - 2);
}
