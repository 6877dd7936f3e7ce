-- Triangles, and the edges of a ring that enter them.

-- The winding numbers on the two sides of an edge of a closed list.
-- Points beside an edge, near a point strictly inside it: the segment between them crosses the edge and misses others.
mod BesideEdges
pub use Rattle.ring_laws.proofs.Triangles.BesideEdges.{BesideEdge, across_edge, beside_edge, crosses_near, left_of, left_of_is_left}
-- A rational point that is as far to one side of a line as all ends of a closed list is not wound round.
mod BeyondLine
pub use Rattle.ring_laws.proofs.Triangles.BeyondLine.{farthest_right}
-- A counterclockwise triangle winds once round the points inside, and not round those outside.
-- The points in a ring of three vertices that turn left are those of the closed triangle.
mod TriangleWinding
pub use Rattle.ring_laws.proofs.Triangles.TriangleWinding.{in_of_in_triangle, in_triangle_of_in, on_sides_in, triangle, triangle_values}
pub use Rattle.ring_laws.proofs.Triangles.TriangleWinding.{winding_inside, winding_outside}
mod NoneEnters
-- Points strictly inside an edge: near each point of it, and on no other edge of a ring.
mod InsideEdge
pub use Rattle.ring_laws.proofs.Triangles.InsideEdge.{InsideNear, inside_near, off_others, other_edges}
-- A way out of a closed triangle: the point at which it leaves, and the side that this point is on.
-- Edges that are apart, two of which are the sides of a triangle at one vertex: how another edge can meet these sides.
mod SidesAtVertex
pub use Rattle.ring_laws.proofs.Triangles.SidesAtVertex.{end_is_on, end_of_other}
-- Where a rational point is to a counterclockwise triangle: inside, outside, or on a side.
mod TrianglePlaces
pub use Rattle.ring_laws.proofs.Triangles.TrianglePlaces.{IsBeyond, IsInside, Place, inside, on_border, on_first, on_second, on_third, outside}
pub use Rattle.ring_laws.proofs.Triangles.TrianglePlaces.{outside_not_in, place_of}
mod FarthestVertex
-- A corner among edges that are apart, with a left turn: what meets the triangle there, and the farthest end in it.
mod CornerLaws
pub use Rattle.ring_laws.proofs.Triangles.CornerLaws.{IsCorner, IsFarthestEnd, corner_base_meets, corner_not_entered, farthest_between}
pub use Rattle.ring_laws.proofs.Triangles.CornerLaws.{farthest_below, farthest_beside, farthest_meets}
-- Closed triangles: their corners, the points on their sides, segments within them, and heights over a side.
mod Triangles
pub use Rattle.ring_laws.proofs.Triangles.Triangles.{between_in_triangle, first_in_triangle, in_or_not, in_triangle, last_in_triangle, left_at_first}
pub use Rattle.ring_laws.proofs.Triangles.Triangles.{left_at_last, left_of_first, middle_in_triangle, not_right_between, of_side, on_first_side}
pub use Rattle.ring_laws.proofs.Triangles.Triangles.{on_second_side, on_third_side}
