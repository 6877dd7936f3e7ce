pub mod Lists
pub mod Points
pub mod Turns
pub mod Order
pub mod Segments
pub mod Meetings
pub mod Nearness
pub mod CornerLists
pub mod Regions
mod KnownFigures
