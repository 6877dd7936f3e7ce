-- The definitions of this room that most files cite, under one name.
pub use Rattle.meshes.specs.Fits.{Fits, FitsPiece, IsCounterclockwiseTri, IsInTri, IsPieceEdge, IsSideOfOne, IsSideOfTwo, IsStrictlyInTri, IsTriOf, piece_points}
pub use Rattle.meshes.specs.Mesh.{IsMesh, side_begin, side_end}
pub use Rattle.meshes.specs.Side.{HasCorner, HasSide, HasSideBetween, HasSidesOnce, IsTree, IsWalk, IsWalkBetween, OneWalk, ShareSide, tri_at}
