-- The turn at the least vertex of a piece.
use Rattle.std.proofs.Common.{sym, subst, ℕ, ◌-◌, List, [], ◌∷◌, ◌++◌, length}
use Rattle.plane.specs.Point.{Point, whole}
use Rattle.plane.specs.Turn.{IsLeft}
use Rattle.rings.specs.Ring.{vertex}
use Rattle.rings.specs.Simple.{IsSimple}
use Rattle.rings.specs.Winding.{RunsCounterclockwise}
use Rattle.ring_laws.proofs.Cuts.{least_turn}
use Rattle.meshes.proofs.Triangulations.{points_are}
use Rattle.meshes.specs.Fits.{piece_points}
use Rattle.cut_tri.proofs.CornerPlaces.{none_before}
use Rattle.cut_tri.proofs.Shapes.{by_ends, last_is}
use Rattle.cut_tri.specs.Piece.{IsLeastBelow, IsPiece, piece_vertex}

module _ (corners : List Point) where
  -- it is to the left
  left_at : (v w : ℕ) (ms : List ℕ) (u : ℕ) → IsPiece corners (v ∷ w ∷ (ms ++ u ∷ []))
      → IsLeastBelow corners (v ∷ w ∷ (ms ++ u ∷ [])) (length (v ∷ w ∷ (ms ++ u ∷ []))) 0
      → IsLeft (whole (piece_vertex corners (v ∷ w ∷ (ms ++ u ∷ [])) (length (v ∷ w ∷ (ms ++ u ∷ [])) - 1))) (whole (vertex corners v)) (whole (vertex corners w))
  left_at v w ms u piece least =
      subst (λ i. IsLeft (whole (vertex corners i)) (whole (vertex corners v)) (whole (vertex corners w))) (sym (last_is v w ms u))
      (least_turn (vertex corners v) (vertex corners w) (piece_points corners ms) (vertex corners u)
      (subst IsSimple (points_are corners v w ms u) piece.polygon.simple)
      (subst RunsCounterclockwise (points_are corners v w ms u) piece.polygon.counterclockwise)
      (none_before corners v w ms u least))

  -- so it is in any piece that begins with its least vertex
  pub left_at_first : (xs : List ℕ) → IsPiece corners xs → IsLeastBelow corners xs (length xs) 0
      → IsLeft (whole (piece_vertex corners xs (length xs - 1))) (whole (piece_vertex corners xs 0)) (whole (piece_vertex corners xs 1))
  left_at_first xs piece =
      by_ends (λ xs. IsPiece corners xs → IsLeastBelow corners xs (length xs) 0
      → IsLeft (whole (piece_vertex corners xs (length xs - 1))) (whole (piece_vertex corners xs 0)) (whole (piece_vertex corners xs 1)))
      left_at xs piece.polygon.some piece
