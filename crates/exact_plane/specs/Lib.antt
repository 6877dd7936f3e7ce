pub mod Boxes
pub mod Direction
pub mod Extent
pub mod Names
pub mod Outside
pub mod Size
pub mod Spot
