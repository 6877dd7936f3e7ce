use Rattle.std.proofs.Common.{◌+◌, ◌*◌, ◌≤◌, length}
use Rattle.plane.specs.Point.{whole}
use Rattle.see_cone.proofs.view.parts_through.Given as goal
use Rattle.see_cone.specs.Told.{AreFirstParts, edge_or}

abbrev pub invariant-loop-placed : goal.invariant-loop-placed
invariant-loop-placed g l = record {
  parts : AreFirstParts l.ring.corners (whole l.q) (edge_or (length l.ring.corners) l.edges l.placed-index) l.parts.items;
  steps : l.steps ≤ l.fn.steps + 9 * l.placed-index;
}
