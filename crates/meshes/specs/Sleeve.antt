-- Sleeves: walks over the triangles of a mesh, with the diagonals that they cross. Lee and Preparata 1984.
use Rattle.std.specs.Prelude.{◌≡◌, ℕ, ◌+◌, ◌<◌, List, length, slice_index_or}
use Rattle.meshes.specs.Side.{HasSide, IsWalk, tri_at}
use Rattle.meshes.specs.declared.diagonal.Diagonal.{Diagonal}
use Rattle.meshes.specs.declared.tri.Tri.{Tri}

-- triangles by their numbers, and the diagonals between each two of them
pub record Sleeve : Type 0 where
  pub walk : List ℕ
  pub diagonals : List Diagonal

-- diagonal i
abbrev pub diagonal_at : Sleeve → ℕ → Diagonal
diagonal_at sleeve i = slice_index_or sleeve.diagonals i (record { left = 0; right = 0 })

-- it is the side on the way from t to u: t has it from its right corner to its left one, and u the other way
pub record IsDiagonalBetween (t u : Tri) (d : Diagonal) : Type 0 where
  pub of_first : HasSide t d.right d.left
  pub of_second : HasSide u d.left d.right

-- a sleeve of these triangles: a walk, and for each two triangles of it that follow each other the side between them
pub record IsOneOf (tris : List Tri) (sleeve : Sleeve) : Type 0 where
  pub walk : IsWalk tris sleeve.walk
  pub count : length sleeve.diagonals + 1 ≡ length sleeve.walk
  pub diagonals : (i : ℕ) → i < length sleeve.diagonals
      → IsDiagonalBetween (tri_at tris (slice_index_or sleeve.walk i 0)) (tri_at tris (slice_index_or sleeve.walk (i + 1) 0)) (diagonal_at sleeve i)
