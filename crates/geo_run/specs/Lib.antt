pub mod Comb
pub mod Fault
pub mod Progress
pub mod Run
