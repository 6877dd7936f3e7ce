pub mod Beside
pub mod Blocks
pub mod LeastCorners
pub mod Links
pub mod Seeking
pub mod Tails
pub mod TurnedBlocks
pub mod Ways
