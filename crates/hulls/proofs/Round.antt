-- The round of the sides of points that turn round one another.

mod Sides
-- Where a number is in a list, how many numbers below a bound a list has, and a list with one more.
mod Places
pub use Rattle.hulls.proofs.Round.Places.{IsIn, is_in_or_not}
-- A closed chain has every side, so it is a round.
mod AllSides
pub use Rattle.hulls.proofs.Round.AllSides.{after_inner, after_last, place_after}
-- Two rounds from one number are equal, and from each start there is one.
mod OneRound
pub use Rattle.hulls.proofs.Round.OneRound.{IsRoundBy, round_closes, same_rounds}
