pub mod Columns
pub mod Corners
pub mod SimpleComb
pub mod CombLaws
mod KnownCombs
