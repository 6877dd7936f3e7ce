-- Triangles of a piece, added to a list. This project's own.
use Rattle.std.specs.Prelude.{◌≡◌, ℕ, List, ◌++◌}
use Rattle.plane.specs.Point.{Point}
use Rattle.meshes.specs.Fits.{FitsPiece}
use Rattle.meshes.specs.declared.tri.Tri.{Tri}

-- after the old triangles come some that fit the piece
abbrev pub IsFilled : List Point → List ℕ → List Tri → List Tri → Type 0
IsFilled corners piece old new = (tris : List Tri) × (new ≡ old ++ tris) × FitsPiece corners piece tris
