-- Numbers in a list and at its places, and pieces read from another vertex on.
use Rattle.std.proofs.Common.{subst, ℕ, ◌<◌, List, ◌++◌, length, get_or}
use Rattle.std.proofs.lemmas.List.Elements.{Contains-get_or}
use Rattle.std.specs.List.{Contains}
use Rattle.plane.specs.Point.{Point}
use Rattle.meshes.proofs.Joins.{place_of, same_rotated}
use Rattle.meshes.proofs.Triangulations.{piece_rotated}
use Rattle.cut_tri.specs.Piece.{IsPiece}

module _ (n : ℕ) (xs : List ℕ) where
  -- what holds of the members holds at the places,
  pub numbers_of_members : ((i : ℕ) → Contains xs i → i < n) → (k : ℕ) → k < length xs → get_or xs k 0 < n
  numbers_of_members all k h = all (get_or xs k 0) (Contains-get_or xs k 0 h)

  -- and the other way round
  pub members_of_numbers : ((k : ℕ) → k < length xs → get_or xs k 0 < n) → (i : ℕ) → Contains xs i → i < n
  members_of_numbers all i has = let (k, h, e) = place_of xs i has in subst (λ j. j < n) e (all k h)

module _ (corners : List Point) (xs ys : List ℕ) (is : IsPiece corners (xs ++ ys)) where
  -- its members are those of the piece read from another vertex on
  pub members_back : (i : ℕ) → Contains (ys ++ xs) i → Contains (xs ++ ys) i
  members_back = (same_rotated corners ys xs (same_rotated corners xs ys is.polygon.simple).simple).members

  -- that is a piece too
  pub is_piece_rotated : IsPiece corners (ys ++ xs)
  is_piece_rotated = record {
    polygon = piece_rotated corners xs ys is.polygon;
    numbers = numbers_of_members (length corners) (ys ++ xs)
        (λ i h. members_of_numbers (length corners) (xs ++ ys) is.numbers i (members_back i h));
  }
