pub mod Entered
pub mod Grown
pub mod Growing
pub mod Listed
pub mod Preceding
pub mod Third
