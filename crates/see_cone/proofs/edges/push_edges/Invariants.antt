use Rattle.see_cone.proofs.edges.push_edges.Given as goal
use Rattle.see_cone.specs.Reached.{AreBoundaryEdges}

abbrev pub invariant-loop-side : goal.invariant-loop-side
invariant-loop-side l = AreBoundaryEdges l.mesh l.reached l.place l.side l.edges.items
