pub mod Vertices
pub mod Simple
pub mod Turned
pub mod Crossings
pub mod Inside
pub mod Sweeps
pub mod Views
pub mod Full
mod KnownFigures
