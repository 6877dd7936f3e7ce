-- Lists of triangles that fit some polygon, and the sides of a triangle by their numbers. This project's own.
use Rattle.std.specs.Prelude.{ℕ, List, [], ◌∷◌, slice_index_or}
use Rattle.plane.specs.Point.{Point}
use Rattle.meshes.specs.Fits.{Fits}
use Rattle.meshes.specs.declared.tri.Tri.{Tri}

-- the triangles fit the ring of some vertices
abbrev pub IsMesh : List Tri → Type 0
IsMesh tris = (corners : List Point) × Fits corners tris

-- the corner where side 0, 1 or 2 begins
abbrev pub side_begin : Tri → ℕ → ℕ
side_begin t side = slice_index_or (t.a ∷ t.b ∷ t.c ∷ []) side 0

-- the corner where it ends
abbrev pub side_end : Tri → ℕ → ℕ
side_end t side = slice_index_or (t.b ∷ t.c ∷ t.a ∷ []) side 0
