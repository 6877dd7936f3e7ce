-- Triangles whose sides cancel to the boundary of a piece.

-- Sums over the sides of triangles, from the least that each triangle adds.
mod Sums
pub use Rattle.meshes.proofs.Boundaries.Sums.{sides_append}
-- Some triangle of a list has a property, or none has.
mod SomeTriangle
-- The winding number of the piece is the sum of those of the triangles.
mod Windings
-- Near each rational point there is one that is off finitely many edges.
mod OffEdges
-- The triangles do not overlap, and a side in one direction belongs to one of them at most.
mod Overlaps
mod SideSums
-- So an edge of the piece is a side of one triangle, and any other side has one triangle in each direction.
mod SideCounts
-- Triangles whose sides cancel to the boundary of a simple piece: the points of the piece are those of the triangles.
-- Counterclockwise triangles whose sides cancel to the boundary of a simple piece tile it.
mod Covered
mod Counts
mod PartTilings
pub use Rattle.meshes.proofs.Boundaries.PartTilings.{IsEdgeBetween, IsPartTiling, IsSideOfOneIn, all_tile, tiling_rotated}
-- The parts of a piece that a diagonal cuts in two, and the triangles that lie in them.
-- A tiled piece that a shared side cuts from its first vertex to another one: the two parts, and the triangles beside the side in them.
mod CutTilings
pub use Rattle.meshes.proofs.Boundaries.CutTilings.{LiesInPart, beside_both, some_after, some_before}
mod TiledParts
mod SideCuts
pub use Rattle.meshes.proofs.Boundaries.SideCuts.{first_tiled, second_tiled}
-- A tiled piece that a shared side cuts in two parts: two trees are one tree.
mod TwoParts
mod OneTriangle
pub use Rattle.meshes.proofs.Boundaries.OneTriangle.{third_corner, three_vertices}
-- Triangles that tile a piece are a tree, two fewer than it has vertices.
mod TiledTrees
-- Sums round a piece: read from another vertex on, and without one of the vertices.
mod Rounds
pub use Rattle.meshes.proofs.Boundaries.Rounds.{sum_parted, sum_rotated}
-- The sides of triangles that fit a piece cancel to its boundary.
mod Cancelling
pub use Rattle.meshes.proofs.Boundaries.Cancelling.{sides_cancel}
-- So triangles whose sides cancel to the boundary fit.
mod Bounded
pub use Rattle.meshes.proofs.Boundaries.Bounded.{fits_bounded}
