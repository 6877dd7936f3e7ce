-- What a point sees of the triangles of a mesh and of the edges of the ring, by cones that are narrowed side by side.

mod Narrowing
-- Signs of directions from one point, over plain integers.
mod RaySigns
mod SideReach
mod SideViews
-- What a cone holds, by signs, and so between two points; and the ends of a side.
mod Held
pub use Rattle.meshes.proofs.Cones.Held.{not_left_between}
mod NarrowedViews
mod BeyondSides
mod PartEnds
-- The cones of sight along a walk over the triangles of a mesh: at its start, beyond a side, and on the edges of the ring.
mod ConesOfSight
pub use Rattle.meshes.proofs.Cones.ConesOfSight.{cone_beyond, edge_part, edge_unseen, home_cone}
