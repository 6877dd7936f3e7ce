-- Pieces of a polygon: simple polygons with some of its vertices.
use Rattle.std.specs.Prelude.{ℕ, ◌-◌, ◌<◌, List, length, slice_index_or}
use Rattle.plane.specs.Order.{IsBefore}
use Rattle.plane.specs.Point.{Point}
use Rattle.rings.specs.Ring.{vertex}
use Rattle.meshes.specs.Piece.{IsPolygonPiece}
use Rattle.meshes.specs.declared.tri.Tri.{Tri}

-- its items are numbers of vertices
abbrev pub HasNumbers : List Point → List ℕ → Type 0
HasNumbers corners piece = (k : ℕ) → k < length piece → slice_index_or piece k 0 < length corners

-- at least three of the vertices: a simple ring that runs counterclockwise
pub record IsPiece (corners : List Point) (piece : List ℕ) : Type 0 where
  pub polygon : IsPolygonPiece corners piece
  pub numbers : HasNumbers corners piece

-- the vertex at place k
abbrev pub piece_vertex : List Point → List ℕ → ℕ → Point
piece_vertex corners piece k = vertex corners (slice_index_or piece k 0)

-- no vertex at the first n places comes before the one at this place, by x first and then by y
abbrev pub IsLeastBelow : List Point → List ℕ → ℕ → ℕ → Type 0
IsLeastBelow corners piece n place =
    (k : ℕ) → k < n → ¬ (IsBefore (piece_vertex corners piece k) (piece_vertex corners piece place))

-- the triangle of the first vertex and the two beside it
abbrev pub tri_at_first : List ℕ → Tri
tri_at_first piece = record { a = slice_index_or piece (length piece - 1) 0; b = slice_index_or piece 0 0; c = slice_index_or piece 1 0 }
