-- The triangles of a mesh as they are entered from one that has a point, and the paths from that point to all points.

-- Trails of triangles from one that has a point b: each is entered over a side, where b has a funnel, and the gate of a point beyond the side
-- is the point of the funnel from which it is reached.
mod Trails
pub use Rattle.hulls.proofs.Entrances.Trails.{Entrance, IsBetween, IsEntered, IsGate, IsNamed, IsTrail, between_back, last_of}
-- From the last triangle of a trail over a shared side to a neighbour: back to the triangle before, or on to one more. The points of the side
-- have the same gates there.
mod NextEntrances
pub use Rattle.hulls.proofs.Entrances.NextEntrances.{crosses, has_gate}
-- Along each walk over the triangles of a mesh from one with a point b goes a trail, so there is one to each triangle.
-- The gate of a point comes before it on the path from b, where it is another point; so there is a path to each point of the ring.
-- A simple ring and the ring that is kept of it, counterclockwise, have the same paths; so in a simple ring there is a path between each two
-- points.
mod PathsFound
pub use Rattle.hulls.proofs.Entrances.PathsFound.{side_crossed, trail_to, before_gate, in_kept, of_kept, path_turned, paths}
