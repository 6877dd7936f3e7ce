mod Bends
pub mod GivenVerdict
pub mod Leaving
mod Neighbours
pub mod SameRules
pub mod TautParts
mod Verdicts
