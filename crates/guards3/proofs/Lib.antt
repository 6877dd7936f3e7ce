mod ThreeClasses
mod OneParting
mod SomeParting
mod Fans
mod GivenClasses
pub mod OneGuards
mod ClassMembers
mod Tallies
pub mod GivenNumbers
mod Watched
