-- The round of the sides.

-- The outer points, by their places in the list of them, turn round one another; and an outer pair is a side between places.
mod Turning
-- Of points that turn round one another a round that begins with the least start of a side.
mod Least
-- A round of places as one of numbers.
-- Fronts of a closed round, which grow along its sides until the first number comes again.
mod Fronts
pub use Rattle.rel_hull.proofs.Closing.Fronts.{IsFrontTo, front_fits, next_in_list}
-- Points have one round.
-- The round of the points of a table, by the sides that its chains tell.
mod Tables
pub use Rattle.rel_hull.proofs.Closing.Tables.{front_of_next, front_of_start, one_round, only_round, round_of_front, round_of_none}
