pub mod Ends
pub mod Keys
pub mod Order
pub mod Oriented
