pub mod Climbs
pub mod Doors
pub mod Pairs
pub mod Rows
pub mod Sights
