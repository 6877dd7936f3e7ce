pub mod Fan
pub mod Flip
pub mod Flips
pub mod Ranks
pub mod Shared
