-- Sides that two triangles of a list share, and the triangles that are on the other side of each. No public clause cites this module.
use Rattle.std.specs.List.{All}
use Rattle.std.specs.Prelude.{◌≡◌, ◌≢◌, ℕ, ◌<◌, List, Option, Some, None, [], ◌∷◌, length, slice_index_or, slice_set}
use Rattle.plane.specs.Point.{Point}
use Rattle.meshes.specs.Mesh.{side_begin, side_end}
use Rattle.meshes.specs.Side.{HasSide, tri_at}
use Rattle.meshes.specs.declared.tri.Tri.{Tri}
use Rattle.tri_mesh.specs.Triangle.{IsSideNumber, side_opposite}
use Rattle.flip_tri.specs.Flips.{IsQuadOf, IsQuadToFlip}
use Rattle.flip_tri.specs.declared.flips.Shared.{Shared}
use Rattle.flip_tri.specs.declared.quad.Quad.{Quad}

-- the side after a side
abbrev pub next_side : ℕ → ℕ
next_side side = slice_index_or (1 ∷ 2 ∷ 0 ∷ []) side 0

-- a side is that of two triangles, in opposite directions
pub record IsShared (tris : List Tri) (shared : Shared) : Type 0 where
  pub near : shared.near < length tris
  pub far : shared.far < length tris
  pub different : shared.near ≢ shared.far
  pub near_side : shared.near_side < 3
  pub far_side : IsSideNumber (tri_at tris shared.far) (side_end (tri_at tris shared.near) shared.near_side)
      (side_begin (tri_at tris shared.near) shared.near_side) shared.far_side

-- the quadrilateral of these triangles
abbrev pub quad_of : List Tri → Shared → Quad
quad_of tris shared = record {
  from = side_begin (tri_at tris shared.near) shared.near_side;
  to = side_end (tri_at tris shared.near) shared.near_side;
  left = side_opposite (tri_at tris shared.near) shared.near_side;
  right = side_opposite (tri_at tris shared.far) shared.far_side;
}

-- the triangles with two of them replaced by those beside the other diagonal
abbrev pub flipped : List Tri → ℕ → ℕ → Quad → List Tri
flipped tris k l quad =
    slice_set (slice_set tris k (record { a = quad.from; b = quad.right; c = quad.left })) l (record { a = quad.right; b = quad.to; c = quad.left })

-- ---- neighbours

-- what a row has for a side
abbrev pub entry : List (List (Option ℕ)) → ℕ → ℕ → Option ℕ
entry rows k side = slice_index_or (slice_index_or rows k []) side None

-- for each triangle a row, with numbers of triangles
pub record AreTriangleRows (tris : List Tri) (rows : List (List (Option ℕ))) : Type 0 where
  pub count : length rows ≡ length tris
  pub three : All (λ row. length row ≡ 3) rows
  pub within : (k side l : ℕ) → k < length tris → side < 3 → entry rows k side ≡ Some l → l < length tris

-- where a triangle has the side from i to j in the other direction, this is that triangle
abbrev pub IsAcrossFrom : List Tri → ℕ → ℕ → Option ℕ → Type 0
IsAcrossFrom tris i j beside = (l : ℕ) → l < length tris → HasSide (tri_at tris l) j i → beside ≡ Some l

-- so it is with what the row has for a side
abbrev pub IsKnown : List Tri → List (List (Option ℕ)) → ℕ → ℕ → Type 0
IsKnown tris rows k side = IsAcrossFrom tris (side_begin (tri_at tris k) side) (side_end (tri_at tris k) side) (entry rows k side)

-- the row of triangle k
pub record IsRowOf (tris : List Tri) (k : ℕ) (row : List (Option ℕ)) : Type 0 where
  pub three : length row ≡ 3
  pub within : (side l : ℕ) → side < 3 → slice_index_or row side None ≡ Some l → l < length tris
  pub all : (side : ℕ) → side < 3
      → IsAcrossFrom tris (side_begin (tri_at tris k) side) (side_end (tri_at tris k) side) (slice_index_or row side None)

-- no quadrilateral of triangle k and another one with this side as its diagonal is to be flipped
abbrev pub HasNoFlipOver : List Point → List Tri → ℕ → ℕ → Type 0
HasNoFlipOver corners tris k side = (l : ℕ) → l < length tris → (quad : Quad) → IsQuadOf tris k l quad → quad.from ≡ side_begin (tri_at tris k) side
    → quad.to ≡ side_end (tri_at tris k) side → ¬ IsQuadToFlip corners quad
