use Rattle.std.proofs.Common.{ℕ, ◌+◌, ◌*◌, ◌<◌, ◌≤◌}
use Rattle.plane.specs.Point.{whole}
use Rattle.meshes.specs.Fits.{IsInTri}
use Rattle.meshes.specs.Side.{tri_at}
use Rattle.dual_tree.proofs.location.locate.Given as goal

abbrev pub invariant-loop-i : goal.invariant-loop-i
invariant-loop-i g l = record {
  none : (k : ℕ) → k < l.i → ¬ IsInTri l.ring.corners (tri_at l.mesh k) (whole l.p);
  few : l.cursor.spared ≤ 2 * l.i;
  paid : l.steps + l.cursor.spared ≤ l.initial.steps + 3 * l.i;
}
