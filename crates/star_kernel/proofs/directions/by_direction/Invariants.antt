use Rattle.std.proofs.Common.{◌+◌, ◌-◌, ◌*◌, ◌≤◌}
use Rattle.star_kernel.specs.HalfPlanes.{AreEdges}
use Rattle.star_kernel.proofs.directions.by_direction.Given as goal

abbrev pub invariant-loop-number : goal.invariant-loop-number
invariant-loop-number g l = record {
  edges : AreEdges l.first l.number l.edges.items;
  steps : l.steps ≤ l.fn.steps + 128 * (l.number - l.first);
}
