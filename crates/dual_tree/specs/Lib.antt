pub mod Laws
pub mod Location
pub mod Sight
pub mod Straight
pub mod Touched
pub mod Ways
