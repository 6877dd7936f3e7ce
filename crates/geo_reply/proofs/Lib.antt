pub mod Fronts
pub mod MapFront
pub mod FromLines
