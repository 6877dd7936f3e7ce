-- Pieces of a polygon that run counterclockwise, read from another vertex on, and split at a vertex.
use Rattle.std.proofs.Common.{◌≡◌, inl, inr, refl, sym, ap, subst, ℕ, ◌≤◌, List, [], ◌∷◌, ◌++◌, length, arith}
use Rattle.std.proofs.lemmas.List.{map-append}
use Rattle.plane.specs.Point.{Point}
use Rattle.rings.proofs.Vertices.{HasPoint}
use Rattle.rings.specs.Ring.{vertex}
use Rattle.rings.specs.Winding.{RunsCounterclockwise}
use Rattle.ring_laws.proofs.Ears.{counterclockwise_rotated}
use Rattle.meshes.proofs.Joins.{fits_rotated, same_rotated}
use Rattle.meshes.specs.Prelude.{FitsPiece, piece_points}
use Rattle.meshes.specs.declared.tri.Tri.{Tri}
use Rattle.meshes.specs.Piece.{IsPolygonPiece}

-- some triangles fit the piece
abbrev pub HasTris : List Point → List ℕ → Type 0
HasTris corners piece = (tris : List Tri) × FitsPiece corners piece tris

-- ---- from another vertex on

module _ (corners : List Point) (xs ys : List ℕ) where
  -- a piece read from another vertex on is a piece
  pub piece_rotated : IsPolygonPiece corners (xs ++ ys) → IsPolygonPiece corners (ys ++ xs)
  piece_rotated is =
      let same = same_rotated corners xs ys is.simple in
      record {
        some = omega (arith, is.some, same.as_long);
        simple = same.simple;
        counterclockwise = subst RunsCounterclockwise (sym (map-append (λ k. vertex corners k) ys xs))
            (counterclockwise_rotated (piece_points corners ys) (piece_points corners xs)
            (subst RunsCounterclockwise (map-append (λ k. vertex corners k) xs ys) is.counterclockwise));
      }

  -- and has triangles where that has
  pub tris_rotated : HasTris corners (ys ++ xs) → HasTris corners (xs ++ ys)
  tris_rotated (ts, fits) = (ts, fits_rotated corners ys xs ts fits)

-- ---- at a vertex

-- the numbers before that of the point, and those after it
pub record SplitAt (corners : List Point) (xs : List ℕ) (p : Point) : Type 0 where
  pub before : List ℕ
  pub number : ℕ
  pub after : List ℕ
  pub parts : xs ≡ before ++ number ∷ after
  pub is_point : vertex corners number ≡ p

-- a piece is split at each of its points
pub split_at : (corners : List Point) (xs : List ℕ) (p : Point) → HasPoint (piece_points corners xs) p → SplitAt corners xs p
split_at corners [] p has = absurd has
split_at corners (x ∷ xs) p (inl e) = record { before = []; number = x; after = xs; parts = refl; is_point = e }
split_at corners (x ∷ xs) p (inr has) =
    let rest = split_at corners xs p has in
    record { before = x ∷ rest.before; number = rest.number; after = rest.after; parts = ap (λ ys. x ∷ ys) rest.parts; is_point = rest.is_point }

-- ---- the first, the second, some others and the last

-- a list has a last item
last_item : (x : ℕ) (xs : List ℕ) → (ms : List ℕ) × (u : ℕ) × (ms ++ u ∷ [] ≡ x ∷ xs)
last_item x [] = ([], x, refl)
last_item x (y ∷ ys) = let (ms, u, is) = last_item y ys in (x ∷ ms, u, ap (λ zs. x ∷ zs) is)

-- what holds of lists in this form holds of all with two numbers or more after the first
pub by_ends_from : (P : List ℕ → Type 0) (v : ℕ) → ((w : ℕ) (ms : List ℕ) (u : ℕ) → P (v ∷ w ∷ (ms ++ u ∷ []))) → (xs : List ℕ) → 2 ≤ length xs
    → P (v ∷ xs)
by_ends_from P v h [] some = absurd (omega arith)
by_ends_from P v h (w ∷ []) some = absurd (omega arith)
by_ends_from P v h (w ∷ x ∷ xs) some = let (ms, u, is) = last_item x xs in subst (λ zs. P (v ∷ w ∷ zs)) is (h w ms u)
