-- A vertex of a ring, the triangles there, and its two edges.

-- Left of an edge of a ring that runs clockwise: not all points near the middle of the edge, toward a point on its left, are in the ring.
mod ClockwiseEdges
-- A triangle of a mesh at one of its corners: no neighbour of the corner in the ring is strictly inside the angle there, nor on the ray along
-- a side that two triangles share.
mod CornerTriangles
pub use Rattle.funnels.proofs.Vertices.CornerTriangles.{IsSharedSide, neighbour_not_inside, off_shared, shared_side_back}
-- A ring that triangles fit is simple, has three vertices or more, and runs counterclockwise: the points of a triangle beside its first edge are in it, and they are on the left.
mod FittedRings
pub use Rattle.funnels.proofs.Vertices.FittedRings.{fitted_counterclockwise, fitted_long, fitted_simple}
