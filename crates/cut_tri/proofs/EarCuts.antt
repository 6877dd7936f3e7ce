-- A piece at whose first vertex the triangle is empty: the triangle is an ear.
use Rattle.std.proofs.Common.{◌≡◌, sym, subst, ℕ, ◌<◌, List, [], ◌∷◌, ◌++◌, length, drop, arith}
use Rattle.std.proofs.lemmas.List.{length-append}
use Rattle.plane.specs.Point.{Point}
use Rattle.meshes.proofs.Joins.{contains_rest}
use Rattle.meshes.proofs.Triangulations.{ear_fits, rest_is_piece, triangle_fits}
use Rattle.meshes.specs.Fits.{FitsPiece}
use Rattle.cut_tri.proofs.CornerPlaces.{none_before, none_in_triangle}
use Rattle.cut_tri.proofs.CutSets.{cut_alone, cut_with_ear}
use Rattle.cut_tri.proofs.DistinctCorners.{simple_distinct}
use Rattle.cut_tri.proofs.Members.{members_of_numbers, numbers_of_members}
use Rattle.cut_tri.proofs.Shapes.{by_ends, ends_length, first_tri_is}
use Rattle.cut_tri.proofs.Readings.{read_from_first}
use Rattle.cut_tri.specs.Cut.{IsPlaceInCorner}
use Rattle.cut_tri.specs.Cutting.{IsEarCut, IsTriangle}
use Rattle.cut_tri.specs.Piece.{IsLeastBelow, IsPiece, tri_at_first}

-- ---- a piece of three vertices

module _ (corners : List Point) where
  -- a triangle fits itself
  fits_itself : (v w : ℕ) (ms : List ℕ) (u : ℕ) → IsPiece corners (v ∷ w ∷ (ms ++ u ∷ []))
      → IsLeastBelow corners (v ∷ w ∷ (ms ++ u ∷ [])) (length (v ∷ w ∷ (ms ++ u ∷ []))) 0 → length (v ∷ w ∷ (ms ++ u ∷ [])) ≡ 3
      → FitsPiece corners (v ∷ w ∷ (ms ++ u ∷ [])) (tri_at_first (v ∷ w ∷ (ms ++ u ∷ [])) ∷ [])
  fits_itself v w [] u piece least three =
      subst (λ t. FitsPiece corners (v ∷ w ∷ u ∷ []) (t ∷ [])) (sym (first_tri_is v w [] u))
      (triangle_fits corners v w u piece.polygon (none_before corners v w [] u least))
  fits_itself v w (m ∷ ms) u piece least three = absurd (omega (arith, three, length-append ms (u ∷ [])))

  -- so a piece of three vertices is the triangle at its first vertex
  pub triangle_cut : (xs : List ℕ) → IsPiece corners xs → IsLeastBelow corners xs (length xs) 0 → length xs ≡ 3
      → IsTriangle corners xs (tri_at_first xs)
  triangle_cut xs piece least three = record {
    fits = by_ends (λ xs. IsPiece corners xs → IsLeastBelow corners xs (length xs) 0 → length xs ≡ 3 → FitsPiece corners xs (tri_at_first xs ∷ []))
        fits_itself xs piece.polygon.some piece least three;
    cut = cut_alone corners xs (simple_distinct corners xs piece.polygon.simple) (read_from_first corners xs (omega (arith, three)) least) three;
  }

-- ---- ears

module _ (corners : List Point) (v w : ℕ) (ms : List ℕ) (u : ℕ) (piece : IsPiece corners (v ∷ w ∷ (ms ++ u ∷ [])))
    (least : IsLeastBelow corners (v ∷ w ∷ (ms ++ u ∷ [])) (length (v ∷ w ∷ (ms ++ u ∷ []))) 0) (some : 0 < length ms)
    (none : (j : ℕ) → j < length (v ∷ w ∷ (ms ++ u ∷ [])) → ¬ (IsPlaceInCorner corners (v ∷ w ∷ (ms ++ u ∷ [])) j)) where
  -- the triangle is one
  is_ear : IsEarCut corners (v ∷ w ∷ (ms ++ u ∷ [])) (tri_at_first (v ∷ w ∷ (ms ++ u ∷ []))) (w ∷ (ms ++ u ∷ []))
  is_ear =
      let least_point = none_before corners v w ms u least in
      let none_in = none_in_triangle corners v w ms u none in
      record {
        rest_is_piece = record {
          polygon = rest_is_piece corners v w ms u piece.polygon least_point some none_in;
          numbers = numbers_of_members (length corners) (w ∷ (ms ++ u ∷ []))
              (λ i h. members_of_numbers (length corners) (v ∷ w ∷ (ms ++ u ∷ [])) piece.numbers i (contains_rest v (w ∷ (ms ++ u ∷ [])) i h));
        };
        shorter = omega arith;
        fits = λ ts fit.
            subst (λ t. FitsPiece corners (v ∷ w ∷ (ms ++ u ∷ [])) (t ∷ ts)) (sym (first_tri_is v w ms u))
            (ear_fits corners v w ms u piece.polygon least_point some none_in ts fit);
        cut = λ ts is_cut.
            let xs = v ∷ w ∷ (ms ++ u ∷ []) in
            cut_with_ear corners xs (simple_distinct corners xs piece.polygon.simple) (read_from_first corners xs (omega arith) least)
            (omega (arith, ends_length v w ms u)) (λ k in_corner. none k (omega (arith, in_corner.before_last)) in_corner) ts is_cut;
      }

module _ (corners : List Point) where
  -- the same of any piece of more than three vertices
  pub ear_cut : (xs : List ℕ) → IsPiece corners xs → IsLeastBelow corners xs (length xs) 0 → ¬ (length xs ≡ 3)
      → ((j : ℕ) → j < length xs → ¬ (IsPlaceInCorner corners xs j)) → IsEarCut corners xs (tri_at_first xs) (drop 1 xs)
  ear_cut xs piece =
      by_ends (λ xs. IsPiece corners xs → IsLeastBelow corners xs (length xs) 0 → ¬ (length xs ≡ 3)
      → ((j : ℕ) → j < length xs → ¬ (IsPlaceInCorner corners xs j)) → IsEarCut corners xs (tri_at_first xs) (drop 1 xs))
      (λ v w ms u piece least more none. is_ear corners v w ms u piece least (omega (arith, more, length-append ms (u ∷ []))) none)
      xs piece.polygon.some piece
