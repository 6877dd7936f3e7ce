-- The kernel of a simple ring: the points that see all of it are those that are right of no edge.

-- A point out of a ring that runs counterclockwise, from which the way to a point strictly inside an edge meets the edges there alone: it is right of that edge.
mod InnerHits
-- The same where the way ends at a vertex: the point is right of an edge at the vertex.
mod VertexHits
-- The kernel law: a rational point sees all of a simple ring that runs counterclockwise exactly if it is right of no edge.
-- A point that is right of no edge of a ring whose vertices are within the limit is in the square of the limit.
mod RightOfNone
pub use Rattle.ring_laws.proofs.Kernels.RightOfNone.{counterclockwise_winds, kernel_law, right_of_none_in_square}
-- Right of an edge, near an end of it, nothing is in a ring where no edge at that end is right of this one; so at a vertex that is not reflex
-- the ring is in the half-planes of both edges.
mod ConvexVertices
pub use Rattle.ring_laws.proofs.Kernels.ConvexVertices.{convex_vertex}
