-- Lists of numbers and of pairs.

-- How many numbers below a bound a list has.
mod FewNumbers
pub use Rattle.plane.proofs.Lists.FewNumbers.{few_numbers}
-- Lists in order: one more at the end, and that a list in a strict order is the only one with its members.
mod OneOrder
pub use Rattle.plane.proofs.Lists.OneOrder.{one_ordered, ordered_push}
-- Pairs of numbers by the first and then by the second: the order is strict.
mod PairOrder
pub use Rattle.plane.proofs.Lists.PairOrder.{before_through, not_before_itself}
-- The numbers below one.
mod Ranges
pub use Rattle.plane.proofs.Lists.Ranges.{in_range, in_range_from, range_grown, range_more}
