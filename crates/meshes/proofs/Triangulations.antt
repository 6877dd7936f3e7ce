-- Each simple ring that runs counterclockwise has triangles that fit it.

-- Pieces of a polygon that run counterclockwise, read from another vertex on, and split at a vertex.
mod Pieces
pub use Rattle.meshes.proofs.Triangulations.Pieces.{SplitAt, by_ends_from, piece_rotated}
-- A piece whose first vertex is its least is cut at the farthest vertex in the triangle there.
-- A piece whose first vertex is its least, with no vertex in the triangle there: the triangle is cut off.
mod PieceEars
pub use Rattle.meshes.proofs.Triangulations.PieceEars.{CutsPoints, both_fit, ear_fits, farthest_cut, first_is_piece, points_are}
pub use Rattle.meshes.proofs.Triangulations.PieceEars.{rest_is_piece, second_is_piece, triangle_fits}
-- Each simple ring that runs counterclockwise has triangles that fit it: a piece is cut at its least vertex, and its parts have triangles by induction.
mod Triangulations
pub use Rattle.meshes.proofs.Triangulations.Triangulations.{ring_is_piece, triangulation}
