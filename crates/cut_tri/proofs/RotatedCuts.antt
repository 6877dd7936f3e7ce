-- What is left of a piece read from another vertex on is left of the piece.
use Rattle.std.proofs.Common.{sym, subst, ℕ, ◌<◌, List, [], ◌∷◌, ◌++◌, length, get_or, take, drop, Result, Ok, Err, arith}
use Rattle.std.proofs.lemmas.List.{length-append, take-append-drop}
use Rattle.std.proofs.lemmas.List.Elements.{Contains-get_or}
use Rattle.std.specs.List.{Contains}
use Rattle.std.specs.Prelude.{IfOk}
use Rattle.plane.specs.Order.{IsBefore}
use Rattle.plane.specs.Point.{Point}
use Rattle.rings.specs.Ring.{vertex}
use Rattle.meshes.proofs.Joins.{place_of, fits_rotated}
use Rattle.exact_plane.specs.declared.memory.Memory.{Memory}
use Rattle.cut_tri.proofs.Members.{members_back, is_piece_rotated}
use Rattle.cut_tri.proofs.Readings.{cut_of_rotated, first_turned}
use Rattle.cut_tri.specs.Cutting.{IsCutOf}
use Rattle.cut_tri.specs.Piece.{IsLeastBelow, IsPiece, piece_vertex}
use Rattle.cut_tri.specs.declared.cut.Remains.{Remains}
use Rattle.cut_tri.specs.declared.cut.Remains.TheVariants.{Ear, Parts, Triangle}

module _ (corners : List Point) (xs ys : List ℕ) where
  -- what is left of it
  cut_rotated : (remains : Remains) → IsCutOf corners (ys ++ xs) remains → IsCutOf corners (xs ++ ys) remains
  cut_rotated (Triangle tri) is = record { fits = fits_rotated corners ys xs _ is.fits; cut = cut_of_rotated corners xs ys (tri ∷ []) is.cut }
  cut_rotated (Ear tri rest) is = record {
    rest_is_piece = is.rest_is_piece;
    shorter = omega (arith, is.shorter, length-append xs ys, length-append ys xs);
    fits = λ ts fit. fits_rotated corners ys xs _ (is.fits ts fit);
    cut = λ ts is_cut. cut_of_rotated corners xs ys (tri ∷ ts) (is.cut ts is_cut);
  }
  cut_rotated (Parts first second) are = record {
    first_is_piece = are.first_is_piece;
    second_is_piece = are.second_is_piece;
    lengths = omega (arith, are.lengths, length-append xs ys, length-append ys xs);
    fits = λ ts us fit fit_too. fits_rotated corners ys xs _ (are.fits ts us fit fit_too);
    cut = λ ts us is_cut is_cut_too. cut_of_rotated corners xs ys (ts ++ us) (are.cut ts us is_cut is_cut_too);
  }

  -- if there is memory
  result_rotated : (r : Result Remains Memory) → IfOk r (IsCutOf corners (ys ++ xs)) → IfOk r (IsCutOf corners (xs ++ ys))
  result_rotated (Ok remains) h = cut_rotated remains h
  result_rotated (Err e) h = h

module _ (corners : List Point) (xs : List ℕ) (k : ℕ) (is : IsPiece corners xs) where
  -- a piece in two parts
  two_parts : IsPiece corners (take k xs ++ drop k xs)
  two_parts = subst (IsPiece corners) (sym (take-append-drop k xs)) is

  -- read from place k on it is a piece
  pub piece_from : IsPiece corners (drop k xs ++ take k xs)
  piece_from = is_piece_rotated corners (take k xs) (drop k xs) two_parts

  -- what is left of that is left of the piece
  pub result_from : (r : Result Remains Memory) → IfOk r (IsCutOf corners (drop k xs ++ take k xs)) → IfOk r (IsCutOf corners xs)
  result_from r h =
      subst (λ ys. IfOk r (IsCutOf corners ys)) (take-append-drop k xs) (result_rotated corners (take k xs) (drop k xs) r h)

  module _ (within : k < length xs) where
    -- a least vertex comes first
    pub least_from : IsLeastBelow corners xs (length xs) k → IsLeastBelow corners (drop k xs ++ take k xs) (length (drop k xs ++ take k xs)) 0
    least_from least j h before =
        let has = members_back corners (take k xs) (drop k xs) two_parts (get_or (drop k xs ++ take k xs) j 0) (Contains-get_or (drop k xs ++ take k xs) j 0 h) in
        let (i, below, same) = place_of xs _ (subst (λ ys. Contains ys (get_or (drop k xs ++ take k xs) j 0)) (take-append-drop k xs) has) in
        least i below
        (subst (λ n. IsBefore (vertex corners n) (piece_vertex corners xs k)) (sym same)
        (subst (λ n. IsBefore (piece_vertex corners (drop k xs ++ take k xs) j) (vertex corners n)) (first_turned xs k within) before))
