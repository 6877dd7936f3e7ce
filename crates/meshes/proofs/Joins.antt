-- Triangulations of two pieces, joined along a diagonal.

-- A piece read from another vertex on: the same triangles fit it.
mod Rotated
pub use Rattle.meshes.proofs.Joins.Rotated.{edge_rotated, fits_rotated, same_rotated, tri_of_same, fits_ear}
mod TwoLists
-- One of two meshes that are joined along a diagonal: the sides of its triangles in the joined list.
mod Halves
pub use Rattle.meshes.proofs.Joins.Halves.{between_at, between_back, between_ends, ends_back}
-- The triangles and sides of two meshes that fit the parts of a piece cut by a diagonal.
-- Two meshes that fit the parts of a piece cut by a diagonal fit the piece together.
mod Joined
pub use Rattle.meshes.proofs.Joins.Joined.{fits_joined}
-- A piece that is cut in two by a diagonal: its vertices and edges, and those of the two parts.
mod Cuts
pub use Rattle.meshes.proofs.Joins.Cuts.{IsCut, both_parts, contains_cases, contains_first, contains_first_part, contains_rest}
pub use Rattle.meshes.proofs.Joins.Cuts.{contains_second_part, first_diagonal, first_part, first_part_cases, part_of_edge, place_of}
pub use Rattle.meshes.proofs.Joins.Cuts.{second_diagonal, second_part, second_part_cases, edge_places, next_place, next_within}
-- Two trees that one edge joins are one tree.
mod JoinedTrees
pub use Rattle.meshes.proofs.Joins.JoinedTrees.{Both, IsBridge, joined_tree}
-- Points strictly inside triangles: those near them are so too, and some of them are off a given line.
mod OffDiagonal
pub use Rattle.meshes.proofs.Joins.OffDiagonal.{in_tri}
