-- Edges by the numbers of their ends. This project's own. No public clause cites this module.
use Rattle.std.specs.Prelude.{◌<◌, List, length}
use Rattle.plane.specs.Point.{Point}
use Rattle.rings.specs.Edge.{Edge, edge}
use Rattle.rings.specs.Ring.{vertex}
use Rattle.ring_check.specs.declared.edge_order.Ends.{Ends}

-- both are vertices
pub record AreVertices (ring : List Point) (e : Ends) : Type 0 where
  pub first : e.first < length ring
  pub last : e.last < length ring

-- the edge from the one to the other
abbrev pub edge_between : List Point → Ends → Edge
edge_between ring e = edge (vertex ring e.first) (vertex ring e.last)
