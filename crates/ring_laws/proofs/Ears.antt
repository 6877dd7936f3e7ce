-- A ring and an ear at its least vertex: one step of the theorem of simple rings.

-- The turn at the least vertex of a ring, which is never straight.
-- Rings that run round once, counterclockwise or clockwise, by the turn at a least vertex.
mod RunsOnce
pub use Rattle.ring_laws.proofs.Ears.RunsOnce.{LeftTurnLaw, counterclockwise_rotated, runs_as_it_turns, runs_from_first, turn_at_first}
-- Numbers that are 0 or 1, or 0 and one of 1 and -1: winding numbers of rings that run once round, and sums of two.
mod UpToOne
pub use Rattle.ring_laws.proofs.Ears.UpToOne.{IsUnit, IsZeroOrOne, both_up_to_one, greater_is_one, no_units, not_twice, not_zero_and_one, odd_unit}
pub use Rattle.ring_laws.proofs.Ears.UpToOne.{one_and_none, one_and_two, one_is, same_units, smaller_is_zero, sum_is, sum_value}
mod EarWinding
-- A ring read from one of its vertices on, with the vertices beside it.
mod OtherStarts
pub use Rattle.ring_laws.proofs.Ears.OtherStarts.{ReadFrom, apart_from, read_from}
-- A ring at its first vertex v, with w after it and u before it: its edges there, and the ring without it.
mod Corner
pub use Rattle.ring_laws.proofs.Ears.Corner.{area_corner, distinct_corner, has_edge_of_corner, on_some_corner, swept_triangle, winding_corner}
mod EarBase
-- A ring with an ear at its least vertex runs counterclockwise, where the ring without the ear runs round once.
mod EarStep
pub use Rattle.ring_laws.proofs.Ears.EarStep.{apart_without, ear_counterclockwise, is_corner, meets_base, rest_counterclockwise}
-- The least vertex of a ring in the order of points, and the ring read from it on.
mod LeastVertex
pub use Rattle.ring_laws.proofs.Ears.LeastVertex.{NoneBefore, least_vertex, none_before_least}
mod BaseEnds
