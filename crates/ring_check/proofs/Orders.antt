-- The vertices of a ring in lexicographic order, and their ranks.

-- Points that ascend in lexicographic order.
mod Ascending
-- The keys of all vertices of a ring in another order.
mod Keys
-- Where the keys of a simple ring's vertices are sorted, the vertices are in lexicographic order.
mod Sorted
pub use Rattle.ring_check.proofs.Orders.Sorted.{in_order, moved_numbers}
-- The vertices that have their ranks; where all have, they are the events of the ring.
mod Ranks
pub use Rattle.ring_check.proofs.Orders.Ranks.{AreRanked, are_events}
