-- The cut triangulation of a polygon: the set of triangles that cuts at lexicographically least vertices make. The vertices alone
-- determine it. This project's own.
use Rattle.std.specs.List.{range_with_len}
use Rattle.std.specs.Prelude.{◌≡◌, ◌↔◌, ℕ, ◌+◌, ◌-◌, ◌<◌, ◌≤◌, ℤ, ◌≤ℤ◌, List, ◌∷◌, ◌++◌, drop, length, slice_index_or, take}
use Rattle.plane.specs.Order.{IsBefore}
use Rattle.plane.specs.Point.{Point, whole}
use Rattle.plane.specs.Triangle.{IsInTriangle, height_over}
use Rattle.rings.specs.Orientation.{IsCounterclockwise}
use Rattle.rings.specs.Simple.{IsSimple}
use Rattle.meshes.specs.Fits.{Fits}
use Rattle.meshes.specs.declared.tri.Tri.{Tri}
use Rattle.cut_tri.specs.Piece.{piece_vertex, tri_at_first}
use Rattle.cut_tri.specs.Triangles.{HasRound, HasTriangle}

-- a piece is a list of vertex indices, in the order of its boundary; this list is the piece, read from its lexicographically least vertex on
pub record IsReadFromLeast (corners : List Point) (piece read : List ℕ) : Type 0 where
  pub place : ℕ
  pub within : place < length piece
  pub turned : read ≡ drop place piece ++ take place piece
  pub least : (k : ℕ) → k < length read → ¬ IsBefore (piece_vertex corners read k) (piece_vertex corners read 0)

-- a piece begins with v, then w, and ends with u; the vertex at place k is none of these three and lies in the closed triangle u, v, w
pub record IsPlaceInCorner (corners : List Point) (piece : List ℕ) (k : ℕ) : Type 0 where
  pub after_second : 2 ≤ k
  pub before_last : k + 1 < length piece
  pub in_triangle : IsInTriangle (piece_vertex corners piece (length piece - 1)) (piece_vertex corners piece 0) (piece_vertex corners piece 1)
      (whole (piece_vertex corners piece k))

-- no vertex of the piece but u, v and w lies in the closed triangle u, v, w
abbrev pub IsEmptyCorner : List Point → List ℕ → Type 0
IsEmptyCorner corners piece = (k : ℕ) → ¬ IsPlaceInCorner corners piece k

-- how far the vertex at place k is from the line through u and w
abbrev pub height_at : List Point → List ℕ → ℕ → ℤ
height_at corners piece k = height_over (piece_vertex corners piece (length piece - 1)) (piece_vertex corners piece 1) (whole (piece_vertex corners piece k))

-- of the vertices in the closed triangle u, v, w but these three, the one at this place is farthest from the line through u and w, and has
-- the least index among those that are as far
pub record IsFarthest (corners : List Point) (piece : List ℕ) (place : ℕ) : Type 0 where
  pub in_corner : IsPlaceInCorner corners piece place
  pub farthest : (k : ℕ) → IsPlaceInCorner corners piece k → height_at corners piece k ≤ℤ height_at corners piece place
  pub least : (k : ℕ) → IsPlaceInCorner corners piece k → height_at corners piece k ≡ height_at corners piece place
      → slice_index_or piece place 0 ≤ slice_index_or piece k 0

-- i, j and k are, counterclockwise, the corners of a triangle of the cut of a piece. Let v be the lexicographically least vertex of the
-- piece, u the one before it, w the one after it, and Z the other vertices of the piece in the closed triangle u, v, w. If Z is empty, u, v, w
-- is a triangle, and a piece of more than three vertices goes on without v. Otherwise z is the vertex of Z farthest from the line through u
-- and w, of several the one with the least index, and the piece is cut along the segment from v to z into two, each with v and z.
pub data IsCutTriangle (corners : List Point) (i j k : ℕ) : List ℕ → Type 0 where
  triangle : (piece read : List ℕ) → IsReadFromLeast corners piece read → 3 ≤ length read → IsEmptyCorner corners read → HasRound (tri_at_first read) i j k
      → IsCutTriangle corners i j k piece
  rest : (piece read : List ℕ) → IsReadFromLeast corners piece read → 3 < length read → IsEmptyCorner corners read
      → IsCutTriangle corners i j k (drop 1 read) → IsCutTriangle corners i j k piece
  first : (piece read : List ℕ) (place : ℕ) → IsReadFromLeast corners piece read → IsFarthest corners read place
      → IsCutTriangle corners i j k (take (place + 1) read) → IsCutTriangle corners i j k piece
  second : (piece read : List ℕ) (place : ℕ) → IsReadFromLeast corners piece read → IsFarthest corners read place
      → IsCutTriangle corners i j k (slice_index_or read 0 0 ∷ drop place read) → IsCutTriangle corners i j k piece

-- the triangles of the list, in any order and each read from any corner, are those of the cut of the piece of all vertices
abbrev pub IsCutTriangulation : List Point → List Tri → Type 0
IsCutTriangulation corners tris = (i j k : ℕ) → HasTriangle tris i j k ↔ IsCutTriangle corners i j k (range_with_len 0 (length corners))

-- the cut of a simple polygon that runs counterclockwise is a triangulation: some list of triangles fits the polygon and has just those of
-- the cut
abbrev pub SomeCutTriangulationLaw : Type 0
SomeCutTriangulationLaw = (corners : List Point) → 3 ≤ length corners → IsSimple corners → IsCounterclockwise corners
    → (tris : List Tri) × Fits corners tris × IsCutTriangulation corners tris
