use Rattle.std.proofs.Common.{◌-◌, ◌+◌, ◌≤◌, List, length}
use Rattle.plane.specs.Point.{Point}
use Rattle.rings.specs.Ring.{vertex}
use Rattle.edge_index.specs.Candidates.{AreLeftOut, IsEdgeIndex, edges_of}
use Rattle.edge_index.specs.Probes.{IsProbe}
use Rattle.edge_index.proofs.index.EdgeIndex.next.Given as goal

abbrev pub invariant-loop-k : goal.invariant-loop-k
invariant-loop-k l = record {
  from : l.place ≤ l.k;
  passed : (ring : List Point) → IsEdgeIndex ring l.self → IsProbe l.edge (vertex ring l.i) (vertex ring (l.i + 1))
      → AreLeftOut ring (edges_of l.self) l.i l.place l.k;
}

abbrev pub decreases-loop-k : goal.decreases-loop-k
decreases-loop-k l = length l.self.edges.items - l.k
