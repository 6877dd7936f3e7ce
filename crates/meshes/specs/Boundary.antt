-- Triangles whose sides cancel to the boundary of a piece: sums over directed pairs of numbers. This project's own.
use Rattle.std.specs.Prelude.{◌≡◌, ℕ, ◌<◌, ℤ, pos, ◌+ℤ◌, neg_ℤ, List, [], ◌∷◌, ◌++◌, length}
use Rattle.plane.specs.Point.{Point}
use Rattle.meshes.specs.Fits.{FitsPiece, IsTriOf}
use Rattle.meshes.specs.Piece.{IsPolygonPiece}
use Rattle.meshes.specs.Side.{tri_at}
use Rattle.meshes.specs.declared.tri.Tri.{Tri}

-- a pair has the opposite value in the other direction
abbrev pub IsOdd : (ℕ → ℕ → ℤ) → Type 0
IsOdd φ = (i j : ℕ) → φ j i ≡ neg_ℤ (φ i j)

-- the sum along a list, from i to its first item and on
abbrev pub sum_from : (ℕ → ℕ → ℤ) → ℕ → List ℕ → ℤ
sum_from φ i [] = pos 0
sum_from φ i (j ∷ js) = φ i j +ℤ sum_from φ j js

-- the sum along a list, from each item to the next
abbrev pub sum_along : (ℕ → ℕ → ℤ) → List ℕ → ℤ
sum_along φ [] = pos 0
sum_along φ (i ∷ is) = sum_from φ i is

-- the sum round a piece, back to its first item
abbrev pub sum_round : (ℕ → ℕ → ℤ) → List ℕ → ℤ
sum_round φ [] = pos 0
sum_round φ (i ∷ is) = sum_from φ i (is ++ i ∷ [])

-- the sum over the sides of triangles
abbrev pub sum_sides : (ℕ → ℕ → ℤ) → List Tri → ℤ
sum_sides φ [] = pos 0
sum_sides φ (t ∷ ts) = (φ t.a t.b +ℤ (φ t.b t.c +ℤ φ t.c t.a)) +ℤ sum_sides φ ts

-- the sides of the triangles cancel to the boundary of the piece
abbrev pub HaveBoundary : List ℕ → List Tri → Type 0
HaveBoundary piece tris = (φ : ℕ → ℕ → ℤ) → IsOdd φ → sum_sides φ tris ≡ sum_round φ piece

-- counterclockwise triangles with vertices of a simple piece as corners, whose sides cancel to its boundary, fit it
abbrev pub BoundaryLaw : Type 0
BoundaryLaw = (corners : List Point) (piece : List ℕ) (tris : List Tri) → IsPolygonPiece corners piece
    → ((k : ℕ) → k < length tris → IsTriOf corners piece (tri_at tris k)) → HaveBoundary piece tris → FitsPiece corners piece tris

-- the sides of triangles that fit a piece cancel to its boundary
abbrev pub SidesCancelLaw : Type 0
SidesCancelLaw = (corners : List Point) (piece : List ℕ) (tris : List Tri) → FitsPiece corners piece tris → HaveBoundary piece tris
