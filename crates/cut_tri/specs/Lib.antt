pub mod Corner
pub mod Cut
pub mod Cutting
pub mod Piece
pub mod Triangles
pub mod WorkList
