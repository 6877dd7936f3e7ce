pub mod Corner
pub mod Neighbours
pub mod Outward
pub mod Search
pub mod Triangle
