pub mod Inner
pub mod Joined
pub mod Laws
pub mod Round
pub mod Steps
pub mod Turning
