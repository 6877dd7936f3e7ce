-- The third corner of a triangle, across from one of its sides. This project's own.
use Rattle.std.specs.Prelude.{ℕ, [], ◌∷◌, slice_index_or}
use Rattle.meshes.specs.Side.{HasSide}
use Rattle.meshes.specs.declared.tri.Tri.{Tri}

-- m is the corner across from the side from corner i to corner j
abbrev pub IsThird : Tri → ℕ → ℕ → ℕ → Type 0
IsThird t i j m = HasSide t j m × HasSide t m i

-- the corner across from side 0, 1 or 2
abbrev pub side_third : Tri → ℕ → ℕ
side_third t side = slice_index_or (t.c ∷ t.a ∷ t.b ∷ []) side 0
