pub mod Climbs
pub mod DoorFunnels
pub mod FunnelPaths
pub mod TableRows
pub mod PairOrder
pub mod SightLists
pub mod SightPaths
pub mod WayBack
