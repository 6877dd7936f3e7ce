pub mod Digits
pub mod Node
pub mod Search
pub mod Seq
pub mod Tree
