-- The vertices of a simple piece are different points.
use Rattle.std.proofs.Common.{◌≡◌, sym, ◌∙◌, ℕ, ◌<◌, List, length, arith}
use Rattle.plane.specs.Point.{Point}
use Rattle.rings.proofs.Simple.{apart_of_simple}
use Rattle.rings.proofs.Vertices.{AreDistinct, distinct_vertices, one_to_one, vertices_differ}
use Rattle.rings.specs.Ring.{vertex}
use Rattle.rings.specs.Simple.{IsSimple}
use Rattle.meshes.proofs.Sides.{length_points, vertex_of_piece}
use Rattle.meshes.specs.Fits.{piece_points}
use Rattle.cut_tri.specs.Piece.{piece_vertex}

-- no two places of the piece have one point
abbrev pub HasDistinctCorners : List Point → List ℕ → Type 0
HasDistinctCorners corners piece = AreDistinct (piece_points corners piece)

-- a simple piece has none
pub simple_distinct : (corners : List Point) (piece : List ℕ) → IsSimple (piece_points corners piece) → HasDistinctCorners corners piece
simple_distinct corners piece simple = distinct_vertices (piece_points corners piece) (apart_of_simple (piece_points corners piece) simple).distinct

module _ (corners : List Point) (piece : List ℕ) (distinct : HasDistinctCorners corners piece) where
  -- a point of such a piece is at one place
  pub at_one_place : (i j : ℕ) → i < length piece → j < length piece → piece_vertex corners piece i ≡ piece_vertex corners piece j → i ≡ j
  at_one_place i j within within_too same =
      one_to_one (vertex (piece_points corners piece)) (length piece)
      (λ i j less below. vertices_differ (piece_points corners piece) distinct i j less (omega (arith, below, length_points corners piece)))
      i j within within_too (vertex_of_piece corners piece i within ∙ same ∙ sym (vertex_of_piece corners piece j within_too))
