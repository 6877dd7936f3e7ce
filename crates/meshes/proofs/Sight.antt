-- Separation, and sight along a walk.

-- A walk over the triangles of a mesh that crosses a side: before it lies one piece, and after it the other.
-- The sleeve law: a segment that meets each side that a walk crosses is covered by the triangles of the walk.
mod SightLaw
pub use Rattle.meshes.proofs.Sight.SightLaw.{piece_sleeve_law, separation_law, shared_from, sleeve_law}
-- A triangle of a mesh: its points are in the ring and see each other, so a sight of one of them goes on to the others.
mod TriangleSights
pub use Rattle.meshes.proofs.Sight.TriangleSights.{not_right_of_side, sees_before, sees_in_triangle, sees_on, sees_within, triangle_in_ring}
