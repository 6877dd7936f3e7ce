use Rattle.std.proofs.Common.{◌+◌, length}
use Rattle.meshes.specs.Sleeve.{diagonal_at}
use Rattle.shared_walks.proofs.paths.Stops.serve.Given as goal
use Rattle.shared_walks.specs.Several.{AreServed, FindsPaths, listed}

abbrev pub invariant-loop-j : goal.invariant-loop-j
invariant-loop-j g l = record {
  finds : FindsPaths l.self.ring.now.corners l.self.start.now l.self.points.now (length l.self.ring.now.corners + 1)
      (listed l.fn.found.items) l.fn.steps (listed l.found.items) l.steps;
  served : AreServed l.self.mesh.now l.self.tris.now (diagonal_at l.sleeve l.front.funnel.at).left (diagonal_at l.sleeve l.front.funnel.at).right l.j (listed l.found.items);
}
