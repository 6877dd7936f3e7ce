-- Sides of triangles, and the edges and vertices of a piece.

-- One triangle fits the piece of its three corners.
mod BaseTriangle
pub use Rattle.meshes.proofs.Sides.BaseTriangle.{fits_triangle}
pub use Rattle.meshes.proofs.Sides.PieceSteps.{corners_differ, fitting_sides, left_apart, one_direction, IsStep, edge_of_step, edge_or_not}
pub use Rattle.meshes.proofs.Sides.PieceSteps.{has_side_or_not, step_after, step_before, step_cases, step_of_edge, edge_of_one, one_at_edge}
pub use Rattle.meshes.proofs.Sides.PieceSteps.{ring_edge_is}
-- The edges of a piece, as the steps along its numbers and back to the first.
mod PieceSteps
-- The vertices of a piece: they are different where it is simple.
mod PieceVertices
pub use Rattle.meshes.proofs.Sides.PieceVertices.{edge_of_piece, length_points, one_number, one_place, piece_points_all, vertex_of_piece}
-- The numbers in a triangulation of a ring: those of its vertices, and how many triangles there are.
mod RingNumbers
pub use Rattle.meshes.proofs.Sides.RingNumbers.{below_of_member, ends_below, two_fewer}
-- The side that two triangles of a mesh share, as a diagonal on the way from the one to the other.
mod SharedSides
pub use Rattle.meshes.proofs.Sides.SharedSides.{LieAlong, lies_across, lies_last, one_more_along}
