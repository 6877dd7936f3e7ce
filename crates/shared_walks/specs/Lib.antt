pub mod Fronts
pub mod Several
