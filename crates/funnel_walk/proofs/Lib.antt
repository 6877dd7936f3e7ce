mod Appended
mod Closed
mod CrossedSides
pub mod EachGoal
mod FirstNamed
pub mod ShortWalks
mod KeptNames
pub mod PathNames
mod NarrowedLeft
mod NarrowedRight
mod Opened
