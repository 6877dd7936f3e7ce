-- The two edges at a vertex of a ring, and what is beside an edge.

-- The two edges at a vertex of a ring with different vertices.
mod VertexEdges
pub use Rattle.ring_laws.proofs.Vertices.VertexEdges.{HasEdgesAt, edges_at, same_number}
-- Neighbours in a ring: the ends of one edge. In a simple ring a vertex has two, which are not on one ray.
mod VertexNeighbours
pub use Rattle.ring_laws.proofs.Vertices.VertexNeighbours.{beside_differs, beside_next, edge_between, neighbour_is}
pub use Rattle.ring_laws.proofs.Vertices.VertexNeighbours.{neighbours_differ, neighbours_not_on_ray, vertex_beside}
-- Beside an edge of a ring that runs counterclockwise: a point from which the way to a point strictly inside the edge meets no other edge is in the ring on the left of the edge, and not on its right.
mod EdgeSides
pub use Rattle.ring_laws.proofs.Vertices.EdgeSides.{IsStrictlyOn, left_is_in, rest_is_edge, rest_of, right_is_out, strictly_from, strictly_to}
