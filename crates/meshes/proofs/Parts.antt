-- A triangulation, parted by a side that two triangles share.

-- Triangles of a list that cover a piece without overlap: those of a mesh, or some of them, by their numbers.
mod Paved
pub use Rattle.meshes.proofs.Parts.Paved.{IsPaved, paved, paved_by_tiling}
-- Regions left of some lines: near a point of one all points are in it, so where the region is in a ring, it meets no edge.
mod OpenRegions
pub use Rattle.meshes.proofs.Parts.OpenRegions.{IsLeftOfAll, left_of_all_eventually}
-- A triangle of a list at one of its sides: the corner opposite to the side, and the points near the side.
mod Opposite
pub use Rattle.meshes.proofs.Parts.Opposite.{left_of_next, left_of_previous, mean, mean_inside, mean_is_point, near_side, opposite}
pub use Rattle.meshes.proofs.Parts.Opposite.{sides, toward_inside}
-- The vertices of a piece, by their numbers: their places, and the edges that begin there.
-- The side that two triangles of a mesh, or of a part of one, share is a diagonal of the ring.
mod MeshDiagonals
pub use Rattle.meshes.proofs.Parts.MeshDiagonals.{IsShared, one_vertex, ring_apart, ring_long, shared_is_diagonal, shared_of}
pub use Rattle.meshes.proofs.Parts.MeshDiagonals.{vertex_in_piece, vertex_is_end, vertex_on_ring}
-- A shared side parts a mesh: the triangles beside it lie in different pieces, and those that share another side in one.
mod PartedMesh
pub use Rattle.meshes.proofs.Parts.PartedMesh.{IsParted, end_of_side, ends_in, ends_of_both, not_in_one, parted, shared_is_this, side_in}
pub use Rattle.meshes.proofs.Parts.PartedMesh.{side_numbers}
-- A simple ring that is split in two by a diagonal: the pieces, each with the diagonal as an edge.
mod Splits
pub use Rattle.meshes.proofs.Parts.Splits.{last_edge}
-- Two rings that share only points of a segment: a way from one to the other, in both together, meets the segment.
-- A ring that is split along a shared side of a mesh: each triangle lies in one piece as a whole.
mod PieceOfTriangle
pub use Rattle.meshes.proofs.Parts.PieceOfTriangle.{IsCovered, LiesIn, covered_swapped, inside_off_edges, inside_one, inside_sides}
pub use Rattle.meshes.proofs.Parts.PieceOfTriangle.{left_of_sides, lies_in_both, lies_in_one, meets_between}
