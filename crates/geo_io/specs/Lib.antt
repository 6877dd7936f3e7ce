pub mod Counted
pub mod Counts
pub mod Transfers
pub mod InMemory
