-- How triangles of the pieces which are still to be cut complete those of the ring.
use Rattle.std.proofs.Common.{ℕ, ◌+◌, ◌-◌, ◌*◌, List, [], ◌∷◌, ◌++◌, length}
use Rattle.plane.specs.Point.{Point}
use Rattle.meshes.specs.Fits.{Fits, FitsPiece}
use Rattle.meshes.specs.declared.tri.Tri.{Tri}
use Rattle.cut_tri.specs.Cut.{IsCutTriangulation}
use Rattle.cut_tri.specs.Cutting.{IsCutInto}
use Rattle.cut_tri.specs.Piece.{IsPiece}

-- each of them is a piece
abbrev pub ArePieces : List Point → List (List ℕ) → Type 0
ArePieces corners [] = Unit {0}
ArePieces corners (piece ∷ pieces) = IsPiece corners piece × ArePieces corners pieces

-- the triangles that are done, and after them any that fit the pieces and into which those are cut, one piece after another, fit the
-- ring and are those into which it is cut
abbrev pub Completes : List Point → List Tri → List (List ℕ) → Type 0
Completes corners done [] = Fits corners done × IsCutTriangulation corners done
Completes corners done (piece ∷ pieces) =
    (ts : List Tri) → FitsPiece corners piece ts → IsCutInto corners piece ts → Completes corners (done ++ ts) pieces

-- a bound on the cuts that are still to be made
abbrev pub effort : List (List ℕ) → ℕ
effort [] = 0
effort (piece ∷ pieces) = (2 * length piece - 5) + effort pieces
