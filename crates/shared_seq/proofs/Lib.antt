pub mod Digits
pub mod Heights
pub mod Places
pub mod Searches
pub mod Turns
