pub mod Doors
pub mod FunnelNumbers
mod GrownOver
mod GrownPaths
mod Halving
mod Lists
pub mod NextFunnels
pub mod ReachedBefore
pub mod StepCounts
mod TreeFunnels
mod TreeSteps
