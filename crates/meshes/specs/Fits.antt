-- Lists of triangles that fit a polygon: triangulations without new vertices. As in the textbooks.
use Rattle.std.specs.List.{Contains, range_with_len}
use Rattle.std.specs.Prelude.{◌≡◌, ◌⊎◌, ◌↔◌, ℕ, ◌+◌, ◌%◌, ◌<◌, List, length, map, slice_index_or}
use Rattle.plane.specs.Prelude.{IsInTriangle, IsLeft, IsPoint, Point, Triple, whole}
use Rattle.rings.specs.Prelude.{IsIn, IsSimple, vertex}
use Rattle.meshes.specs.Side.{HasSide, HasSideBetween, IsTree, tri_at}
use Rattle.meshes.specs.declared.tri.Tri.{Tri}

-- a piece of a polygon: some of its vertices, by their numbers, in the order of the piece's boundary; the points of it
abbrev pub piece_points : List Point → List ℕ → List Point
piece_points corners piece = map (λ i. vertex corners i) piece

-- an edge of the piece goes from vertex i to vertex j
pub record IsPieceEdge (piece : List ℕ) (i j : ℕ) : Type 0 where
  pub place : ℕ
  pub in_piece : place < length piece
  pub from : slice_index_or piece place 0 ≡ i
  pub to : slice_index_or piece ((place + 1) % length piece) 0 ≡ j

-- the rational point is in the closed triangle
abbrev pub IsInTri : List Point → Tri → Triple → Type 0
IsInTri corners t p = IsInTriangle (vertex corners t.a) (vertex corners t.b) (vertex corners t.c) p

-- the corners of the triangle run counterclockwise
abbrev pub IsCounterclockwiseTri : List Point → Tri → Type 0
IsCounterclockwiseTri corners t = IsLeft (whole (vertex corners t.a)) (whole (vertex corners t.b)) (whole (vertex corners t.c))

-- the point is left of all its sides
pub record IsStrictlyInTri (corners : List Point) (t : Tri) (p : Triple) : Type 0 where
  pub left_of_first : IsLeft (whole (vertex corners t.a)) (whole (vertex corners t.b)) p
  pub left_of_second : IsLeft (whole (vertex corners t.b)) (whole (vertex corners t.c)) p
  pub left_of_third : IsLeft (whole (vertex corners t.c)) (whole (vertex corners t.a)) p

-- its corners are vertices of the piece and run counterclockwise, so that its area is not 0
pub record IsTriOf (corners : List Point) (piece : List ℕ) (t : Tri) : Type 0 where
  pub has_a : Contains piece t.a
  pub has_b : Contains piece t.b
  pub has_c : Contains piece t.c
  pub counterclockwise : IsCounterclockwiseTri corners t

-- triangle k alone has a side between i and j, and it goes from i to j
pub record IsSideOfOne (tris : List Tri) (i j k : ℕ) : Type 0 where
  pub in_list : k < length tris
  pub has : HasSide (tri_at tris k) i j
  pub only : (l : ℕ) → l < length tris → HasSideBetween (tri_at tris l) i j → l ≡ k

-- triangles k and l alone have a side between i and j, in opposite directions
pub record IsSideOfTwo (tris : List Tri) (i j k l : ℕ) : Type 0 where
  pub in_list : k < length tris
  pub other_in_list : l < length tris
  pub different : ¬ (k ≡ l)
  pub has : HasSide (tri_at tris k) i j
  pub other_has : HasSide (tri_at tris l) j i
  pub only : (m : ℕ) → m < length tris → HasSideBetween (tri_at tris m) i j → (m ≡ k) ⊎ (m ≡ l)

-- the triangles fit the piece
pub record FitsPiece (corners : List Point) (piece : List ℕ) (tris : List Tri) : Type 0 where
  pub simple : IsSimple (piece_points corners piece)
  pub count : length tris + 2 ≡ length piece
  pub triangles : (k : ℕ) → k < length tris → IsTriOf corners piece (tri_at tris k)
  pub edges : (i j : ℕ) → IsPieceEdge piece i j → (k : ℕ) × IsSideOfOne tris i j k
  pub inner_sides : (i j k : ℕ) → k < length tris → HasSide (tri_at tris k) i j → ¬ IsPieceEdge piece i j → (l : ℕ) × IsSideOfTwo tris i j k l
  pub covers : (p : Triple) → IsPoint p → IsIn (piece_points corners piece) p ↔ ((k : ℕ) × (k < length tris) × IsInTri corners (tri_at tris k) p)
  pub apart : (p : Triple) → IsPoint p → (k l : ℕ) → k < l → l < length tris
      → ¬ (IsStrictlyInTri corners (tri_at tris k) p × IsStrictlyInTri corners (tri_at tris l) p)
  pub tree : IsTree tris

-- they fit a ring: the piece of all its vertices
abbrev pub Fits : List Point → List Tri → Type 0
Fits corners tris = FitsPiece corners (range_with_len 0 (length corners)) tris
