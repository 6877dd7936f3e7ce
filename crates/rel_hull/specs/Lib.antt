pub mod Hull
pub mod PathTurn
pub mod Round
pub mod Table
pub mod Told
