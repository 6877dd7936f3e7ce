-- Of two or more points of a simple ring a pair that has all others to the left.

mod Fronts
mod OnFronts
mod Seen
-- Of some numbers below a bound there is a least or none, and where they stand in one order there is a last.
mod Lasts
pub use Rattle.hulls.proofs.Outer.Lasts.{some_or_none}
mod LeastBases
mod NextBases
-- Points are inner or not; and of three that aren't, one is to the left of another, to the same side seen from each.
-- The last point seen from the least point, and the last one seen from that, are an outer pair.
mod OuterPoints
pub use Rattle.hulls.proofs.Outer.OuterPoints.{AreOuter, IsOuter, inner_or_not, left_from_next, one_is_left, outer_pair}
-- Points that aren't inner, as seen from the start or the end of an outer pair: they are in one order.
mod AtEnds
pub use Rattle.hulls.proofs.Outer.AtEnds.{ordered_at_end, ordered_at_start}
