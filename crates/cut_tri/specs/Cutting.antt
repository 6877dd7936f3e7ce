-- What one cut leaves of a piece, and how triangles of what is left are triangles of the piece. No public clause cites this
-- module.
use Rattle.std.specs.Prelude.{◌≡◌, ◌↔◌, ℕ, ◌+◌, List, [], ◌∷◌, ◌++◌, length}
use Rattle.plane.specs.Point.{Point}
use Rattle.meshes.specs.Fits.{FitsPiece}
use Rattle.meshes.specs.declared.tri.Tri.{Tri}
use Rattle.cut_tri.specs.Cut.{IsCutTriangle}
use Rattle.cut_tri.specs.Piece.{IsPiece}
use Rattle.cut_tri.specs.Triangles.{HasTriangle}
use Rattle.cut_tri.specs.declared.cut.Remains.{Remains}
use Rattle.cut_tri.specs.declared.cut.Remains.TheVariants.{Triangle, Ear, Parts}

-- the triangles of the list, in any order and each read from any corner, are those of the cut of the piece
abbrev pub IsCutInto : List Point → List ℕ → List Tri → Type 0
IsCutInto corners piece tris = (i j k : ℕ) → HasTriangle tris i j k ↔ IsCutTriangle corners i j k piece

-- a triangle and nothing else
pub record IsTriangle (corners : List Point) (piece : List ℕ) (tri : Tri) : Type 0 where
  pub fits : FitsPiece corners piece (tri ∷ [])
  pub cut : IsCutInto corners piece (tri ∷ [])

-- a triangle and a piece with one vertex less
pub record IsEarCut (corners : List Point) (piece : List ℕ) (tri : Tri) (rest : List ℕ) : Type 0 where
  pub rest_is_piece : IsPiece corners rest
  pub shorter : length rest + 1 ≡ length piece
  pub fits : (ts : List Tri) → FitsPiece corners rest ts → FitsPiece corners piece (tri ∷ ts)
  pub cut : (ts : List Tri) → IsCutInto corners rest ts → IsCutInto corners piece (tri ∷ ts)

-- two pieces, which have the ends of the diagonal twice
pub record AreDiagonalPieces (corners : List Point) (piece first second : List ℕ) : Type 0 where
  pub first_is_piece : IsPiece corners first
  pub second_is_piece : IsPiece corners second
  pub lengths : length first + length second ≡ length piece + 2
  pub fits : (ts us : List Tri) → FitsPiece corners first ts → FitsPiece corners second us → FitsPiece corners piece (ts ++ us)
  pub cut : (ts us : List Tri) → IsCutInto corners first ts → IsCutInto corners second us → IsCutInto corners piece (ts ++ us)

-- what is left of the piece
abbrev pub IsCutOf : List Point → List ℕ → Remains → Type 0
IsCutOf corners piece (Triangle tri) = IsTriangle corners piece tri
IsCutOf corners piece (Ear tri rest) = IsEarCut corners piece tri rest.items
IsCutOf corners piece (Parts first second) = AreDiagonalPieces corners piece first.items second.items
