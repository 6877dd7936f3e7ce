pub mod CutRule
pub mod Diagonal
pub mod Laws
pub mod Pieces
