pub mod Apart
pub mod Block
pub mod Breakpoints
pub mod Level
pub mod Meeting
pub mod Odd
