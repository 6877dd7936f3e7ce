pub mod Triangles
pub mod Ears
pub mod Pieces
pub mod Simple
pub mod Diagonals
pub mod Cuts
pub mod Vertices
pub mod Kernels
mod KnownFigures
