pub mod CornerHits
pub mod FullLists
mod KnownLists
pub mod LocationFits
pub mod NoPointTwice
pub mod Searched
pub mod SideHits
pub mod SightLines
pub mod SleeveRoom
pub mod TreeWalks
pub mod StrictHits
pub mod Ways
