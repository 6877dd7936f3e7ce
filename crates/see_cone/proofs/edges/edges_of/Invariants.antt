use Rattle.see_cone.proofs.edges.edges_of.Given as goal
use Rattle.see_cone.specs.Reached.{AreBoundaryEdges}

abbrev pub invariant-loop-place : goal.invariant-loop-place
invariant-loop-place l = AreBoundaryEdges l.mesh l.reached l.place 0 l.edges.items
