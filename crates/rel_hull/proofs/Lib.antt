pub mod Closing
pub mod Costs
pub mod Turned
mod OnLine
mod OnSteps
pub mod Outer
mod Paths
mod PathTurns
mod TableSides
mod TableReads
