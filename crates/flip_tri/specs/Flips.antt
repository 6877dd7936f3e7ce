-- Triangles that fit a ring with their neighbours, and what a flip makes of them. No public clause cites this module.
use Rattle.std.specs.List.{All, Contains}
use Rattle.std.specs.Prelude.{◌≡◌, ◌≢◌, ◌⊎◌, ℕ, ◌<◌, List, Option, Some, None, [], length, slice_index_or, Bool, true, false}
use Rattle.plane.specs.Order.{IsBefore}
use Rattle.plane.specs.Point.{Point, whole}
use Rattle.plane.specs.Turn.{IsLeft}
use Rattle.rings.specs.Ring.{vertex}
use Rattle.meshes.specs.Fits.{Fits}
use Rattle.meshes.specs.Mesh.{side_begin, side_end}
use Rattle.meshes.specs.Side.{HasSide, tri_at}
use Rattle.meshes.specs.declared.tri.Tri.{Tri}
use Rattle.cut_tri.specs.Triangles.{HasRound}
use Rattle.flip_tri.specs.Flip.{IsToFlip}
use Rattle.flip_tri.specs.Ranks.{rank_sum}
use Rattle.flip_tri.specs.declared.quad.Quad.{Quad}

-- ---- quadrilaterals

-- its corners are of n vertices
pub record IsQuadBelow (n : ℕ) (quad : Quad) : Type 0 where
  pub from : quad.from < n
  pub to : quad.to < n
  pub left : quad.left < n
  pub right : quad.right < n

-- it is that of triangles k and l
pub record IsQuadOf (tris : List Tri) (k l : ℕ) (quad : Quad) : Type 0 where
  pub near : HasRound (tri_at tris k) quad.from quad.to quad.left
  pub far : HasRound (tri_at tris l) quad.to quad.from quad.right

-- i comes before c and d, and the turn from d over j to c is to the left
pub record IsConvexFrom (i d j c : Point) : Type 0 where
  pub before_left : IsBefore i c
  pub before_right : IsBefore i d
  pub convex : IsLeft (whole d) (whole j) (whole c)

-- its diagonal is to be flipped, in one direction or the other
abbrev pub IsQuadToFlip : List Point → Quad → Type 0
IsQuadToFlip corners quad =
    (IsBefore (vertex corners quad.from) (vertex corners quad.to)
    × IsConvexFrom (vertex corners quad.from) (vertex corners quad.right) (vertex corners quad.to) (vertex corners quad.left))
    ⊎ ((¬ IsBefore (vertex corners quad.from) (vertex corners quad.to))
    × IsConvexFrom (vertex corners quad.to) (vertex corners quad.left) (vertex corners quad.from) (vertex corners quad.right))

-- ---- triangles and their neighbours

-- for each triangle a row; where a triangle has a side in the other direction, the row has that triangle
pub record KnowsNeighbours (tris : List Tri) (rows : List (List (Option ℕ))) : Type 0 where
  pub count : length rows ≡ length tris
  pub three : All (λ row. length row ≡ 3) rows
  pub within : (k side l : ℕ) → k < length tris → side < 3 → slice_index_or (slice_index_or rows k []) side None ≡ Some l → l < length tris
  pub all : (k side l : ℕ) → k < length tris → side < 3 → l < length tris
      → HasSide (tri_at tris l) (side_end (tri_at tris k) side) (side_begin (tri_at tris k) side)
      → slice_index_or (slice_index_or rows k []) side None ≡ Some l

-- the triangles fit the ring, and their neighbours are known
pub record AreFlips (corners : List Point) (tris : List Tri) (rows : List (List (Option ℕ))) : Type 0 where
  pub fits : Fits corners tris
  pub knows : KnowsNeighbours tris rows

-- no side of triangle k is to be flipped
pub record HasNoFlipAt (corners : List Point) (tris : List Tri) (k : ℕ) : Type 0 where
  pub near : (l i j c d : ℕ) → l < length tris → ¬ IsToFlip corners (tri_at tris k) (tri_at tris l) i j c d
  pub far : (l i j c d : ℕ) → l < length tris → ¬ IsToFlip corners (tri_at tris l) (tri_at tris k) i j c d

-- a flip of the side that triangles k and l share: all others are as before, and the sum of the ranks is greater
pub record IsFlipped (corners : List Point) (tris after : List Tri) (k l : ℕ) : Type 0 where
  pub count : length after ≡ length tris
  pub within : l < length tris
  pub others : (m : ℕ) → m ≢ k → m ≢ l → tri_at after m ≡ tri_at tris m
  pub ranks : rank_sum corners tris < rank_sum corners after

-- ---- numbers that wait

-- they are below the count of the marks, and each with a mark is there
pub record AreWaiting (numbers : List ℕ) (marks : List Bool) : Type 0 where
  pub below : All (λ k. k < length marks) numbers
  pub marked : (k : ℕ) → k < length marks → slice_index_or marks k false ≡ true → Contains numbers k

-- numbers that wait, of those below a count
pub record Waits : Type 0 where
  pub numbers : List ℕ
  pub count : ℕ
