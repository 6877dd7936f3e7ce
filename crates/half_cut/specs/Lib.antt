pub mod Block
pub mod Meeting
pub mod Outline
pub mod Seek
