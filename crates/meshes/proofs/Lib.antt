pub mod Walks
pub mod Sides
pub mod Joins
pub mod Parts
pub mod Sight
pub mod TreeLeaves
pub mod Ears
pub mod Triangulations
pub mod Cones
pub mod Boundaries
pub mod Monotone
pub mod KnownMeshes
mod KnownCones
