use Rattle.std.proofs.Common.{◌≡◌, ◌+◌, ◌*◌, ◌%◌, ◌<◌, ◌≤◌, ℕ, length}
use Rattle.plane.specs.Region.{corner_at}
use Rattle.half_cut.proofs.block.run.Given as goal
use Rattle.half_cut.specs.Outline.{IsRightOf}

abbrev pub invariant-loop-k : goal.invariant-loop-k
invariant-loop-k g l = record {
  place : l.place ≡ (l.from + l.k * l.step) % length l.corners.items;
  right : (i : ℕ) → i < l.k → IsRightOf l.line (corner_at l.corners.items (l.from + i * l.step));
  steps : l.steps ≤ l.fn.steps + l.k;
}
