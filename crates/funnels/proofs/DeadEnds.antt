-- A chain with bends along a walk: its inner points are corners there, in order.

mod JoinedWalks
-- Parts of a walk over triangles, and the first of its triangles with a point.
-- Parts of a walk: they are walks, and points that see each other do so over each side that the walk crosses between their triangles.
mod WalkParts
pub use Rattle.funnels.proofs.DeadEnds.WalkParts.{one_first, meets_on_part}
-- The sides that a walk over the triangles of a mesh crosses, with the corners of its triangles beside them.
mod CrossedSides
pub use Rattle.funnels.proofs.DeadEnds.CrossedSides.{HasSideOn, corner_at_side, crossed_back, crossed_before, crossed_shared, end_of_crossed}
pub use Rattle.funnels.proofs.DeadEnds.CrossedSides.{opposite_side, some_crossed}
-- Ways at a corner of a triangle of a walk: the ray to a point in sight in an earlier triangle is in the angle there, how a way comes to the
-- corner at the end of a walk, and how one leaves it at the start.
mod CornersReached
pub use Rattle.funnels.proofs.DeadEnds.CornersReached.{within_before}
-- The bends of a chain, and walks to them.
mod ChainBends
pub use Rattle.funnels.proofs.DeadEnds.ChainBends.{front_to, some_triangle}
-- A chain with bends follows each walk of triangles from a triangle with its first point to one with its last: it enters no dead end.
-- A chain with bends in a ring that triangles fit does not end where it begins, unless it is a single point.
mod DeadEnds
pub use Rattle.funnels.proofs.DeadEnds.DeadEnds.{dead_ends, follows, closed_chain}
