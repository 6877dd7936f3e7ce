-- The vertices in the triangle at the first vertex of a piece, as points.
use Rattle.std.proofs.Common.{◌≡◌, inr, sym, subst, ◌∙◌, ℕ, ◌+◌, ◌<◌, List, [], ◌∷◌, ◌++◌, length, get_or, arith}
use Rattle.std.proofs.lemmas.List.{get_or-map, length-map}
use Rattle.plane.specs.Order.{IsBefore}
use Rattle.plane.specs.Point.{Point, whole}
use Rattle.plane.specs.Triangle.{IsInTriangle}
use Rattle.rings.proofs.Vertices.{HasPoint, number_of}
use Rattle.rings.specs.Ring.{origin, vertex}
use Rattle.ring_laws.proofs.Ears.{NoneBefore}
use Rattle.ring_laws.proofs.Simple.{InTriangle, height}
use Rattle.meshes.proofs.Triangulations.{points_are}
use Rattle.meshes.specs.Fits.{piece_points}
use Rattle.cut_tri.proofs.Shapes.{ends_length, last_is, middle_is}
use Rattle.cut_tri.specs.Cut.{IsPlaceInCorner, height_at}
use Rattle.cut_tri.specs.Piece.{IsLeastBelow}

-- a point of a piece is the vertex at a place
pub place_of_point : (corners : List Point) (xs : List ℕ) (p : Point) → HasPoint (piece_points corners xs) p
    → (k : ℕ) × (k < length xs) × (vertex corners (get_or xs k 0) ≡ p)
place_of_point corners xs p has =
    let (k, within, is) = number_of (piece_points corners xs) p has in
    let below : k < length xs = omega (arith, within, length-map xs (λ i. vertex corners i)) in
    (k, below, sym (get_or-map (λ i. vertex corners i) xs k 0 origin below) ∙ is origin)

module _ (corners : List Point) (v w : ℕ) (ms : List ℕ) (u : ℕ) where
  module _ (i : ℕ) (within : i < length ms) where
    -- a vertex in the triangle is in the corner
    pub in_corner_from : InTriangle (vertex corners u) (vertex corners v) (vertex corners w) (vertex corners (get_or ms i 0))
        → IsPlaceInCorner corners (v ∷ w ∷ (ms ++ u ∷ [])) (i + 2)
    in_corner_from h = record {
      after_second = omega arith;
      before_last = omega (arith, ends_length v w ms u);
      in_triangle = subst (λ a. IsInTriangle (vertex corners a) (vertex corners v) (vertex corners w) (whole (vertex corners (get_or (v ∷ w ∷ (ms ++ u ∷ [])) (i + 2) 0)))) (sym (last_is v w ms u))
          (subst (λ b. IsInTriangle (vertex corners u) (vertex corners v) (vertex corners w) (whole (vertex corners b))) (sym (middle_is v w ms u i within)) h);
    }

    -- and the other way round
    pub in_triangle_from : IsPlaceInCorner corners (v ∷ w ∷ (ms ++ u ∷ [])) (i + 2)
        → InTriangle (vertex corners u) (vertex corners v) (vertex corners w) (vertex corners (get_or ms i 0))
    in_triangle_from h =
        subst (λ b. IsInTriangle (vertex corners u) (vertex corners v) (vertex corners w) (whole (vertex corners b))) (middle_is v w ms u i within)
        (subst (λ a. IsInTriangle (vertex corners a) (vertex corners v) (vertex corners w) (whole (vertex corners (get_or (v ∷ w ∷ (ms ++ u ∷ [])) (i + 2) 0)))) (last_is v w ms u) h.in_triangle)

    -- its height is the same
    pub height_is : height_at corners (v ∷ w ∷ (ms ++ u ∷ [])) (i + 2) ≡ height (vertex corners u) (vertex corners w) (vertex corners (get_or ms i 0))
    height_is = λ j. height (vertex corners (last_is v w ms u j)) (vertex corners w) (vertex corners (middle_is v w ms u i within j))

  -- where the corner is empty, so is the triangle
  pub none_in_triangle : ((j : ℕ) → j < length (v ∷ w ∷ (ms ++ u ∷ [])) → ¬ (IsPlaceInCorner corners (v ∷ w ∷ (ms ++ u ∷ [])) j))
      → (p : Point) → HasPoint (piece_points corners ms) p → ¬ (InTriangle (vertex corners u) (vertex corners v) (vertex corners w) p)
  none_in_triangle none p has h =
      let (i, within, is) = place_of_point corners ms p has in
      none (i + 2) (omega (arith, within, ends_length v w ms u))
      (in_corner_from i within (subst (InTriangle (vertex corners u) (vertex corners v) (vertex corners w)) (sym is) h))

  -- no other point is before the first where no vertex is
  pub none_before : IsLeastBelow corners (v ∷ w ∷ (ms ++ u ∷ [])) (length (v ∷ w ∷ (ms ++ u ∷ []))) 0
      → NoneBefore (vertex corners w ∷ (piece_points corners ms ++ vertex corners u ∷ [])) (vertex corners v)
  none_before least p has before =
      let (k, within, is) = place_of_point corners (v ∷ w ∷ (ms ++ u ∷ [])) p (subst (λ rs. HasPoint rs p) (sym (points_are corners v w ms u)) (inr has)) in
      least k within (subst (λ (q : Point). IsBefore q (vertex corners v)) (sym is) before)
