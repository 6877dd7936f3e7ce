pub mod Guards
pub mod Parting
pub mod Tally
