-- The sides of a triangle by their numbers, and the corners opposite to them. This project's own.
use Rattle.std.specs.Prelude.{◌≡◌, ℕ, ◌<◌, [], ◌∷◌, slice_index_or}
use Rattle.meshes.specs.Mesh.{side_begin, side_end}
use Rattle.meshes.specs.declared.tri.Tri.{Tri}

-- the side from corner i to corner j is side 0, 1 or 2
pub record IsSideNumber (t : Tri) (i j side : ℕ) : Type 0 where
  pub below : side < 3
  pub begins : side_begin t side ≡ i
  pub ends : side_end t side ≡ j

-- the corner opposite to side 0, 1 or 2
abbrev pub side_opposite : Tri → ℕ → ℕ
side_opposite t side = slice_index_or (t.c ∷ t.a ∷ t.b ∷ []) side 0
