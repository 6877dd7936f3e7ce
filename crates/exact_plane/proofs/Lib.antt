pub mod Comparing
mod Cones
pub mod CrossProduct
pub mod Directions
mod Fields
pub mod Halves
mod Intervals
mod Mediants
mod Meetings
pub mod Overlaps
pub mod Registers
mod Triangles
pub mod WideProducts
