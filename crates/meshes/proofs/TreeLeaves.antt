-- Leaves of the tree of triangles, and that they are ears.

mod TreeLeaves
mod LeavesOffPaths
-- Two sides of a triangle by the numbers of their ends: its turn, its points and its other side.
mod TwoSides
pub use Rattle.meshes.proofs.TreeLeaves.TwoSides.{by_turns, closed_by_sides, closed_of_sides, next_corner, not_two_shared, side_is_one, turns_left}
-- The leaves of a mesh, and that they are ears.
mod Ears
pub use Rattle.meshes.proofs.TreeLeaves.Ears.{leaf_is_ear, leaf_off_walk, leaves_law}
