-- Chains with all vertices that they touch.

-- A chain with all vertices that it touches is one list: points in order along a segment are known by which they are.
mod OneFull
pub use Rattle.rings.proofs.Full.OneFull.{one_full}
-- Points in order with one more, and a chain with what it touches that goes on by one point.
mod LongerLists
pub use Rattle.rings.proofs.Full.LongerLists.{full_more, in_order_more}
-- Different points that are all in a list are no more than its points.
mod FewerPoints
pub use Rattle.rings.proofs.Full.FewerPoints.{no_more}
