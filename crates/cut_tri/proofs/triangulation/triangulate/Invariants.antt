use Rattle.std.proofs.Common.{◌+◌, ◌-◌, ◌≤◌, length}
use Rattle.cut_tri.proofs.AllowedSteps.{allowed, allowed_for}
use Rattle.cut_tri.proofs.Completion.{ArePieces, Completes, effort}
use Rattle.cut_tri.proofs.triangulation.triangulate.Given as goal
use Rattle.cut_tri.specs.WorkList.{last_first}

abbrev pub invariant-loop-piece : goal.invariant-loop-piece
invariant-loop-piece g l = record {
  pieces : ArePieces l.ring.corners (last_first l.work.items) × Completes l.ring.corners l.tris.items (last_first l.work.items);
  steps : l.steps + allowed (last_first l.work.items) ≤ l.fn.steps + allowed_for (length l.ring.corners - 3);
}

abbrev pub decreases-loop-piece : goal.decreases-loop-piece
decreases-loop-piece g l = effort (last_first l.work.items)
