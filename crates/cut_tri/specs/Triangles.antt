-- Triangles read from any of their corners, and the triangles of a list in any order. This project's own.
use Rattle.std.specs.Prelude.{ℕ, ◌<◌, List, length}
use Rattle.meshes.specs.Side.{HasSide, tri_at}
use Rattle.meshes.specs.declared.tri.Tri.{Tri}

-- the triangle has the corners i, j and k, in this order round it
pub record HasRound (t : Tri) (i j k : ℕ) : Type 0 where
  pub first : HasSide t i j
  pub second : HasSide t j k
  pub third : HasSide t k i

-- some triangle of the list has the corners i, j and k, in this order round it
abbrev pub HasTriangle : List Tri → ℕ → ℕ → ℕ → Type 0
HasTriangle tris i j k = (l : ℕ) × (l < length tris) × HasRound (tri_at tris l) i j k
