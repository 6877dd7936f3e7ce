-- Rows of monotone pieces. That their points rise is computed.
use Rattle.std.proofs.Common.{◌≡◌, ◌∙◌, ◌⊎◌, inl, inr, refl, sym, ap, ℕ, zero, suc, ◌+◌, ◌<◌, Bool, true, false, List, [], ◌∷◌, ◌++◌, length, ltb, arith}
use Rattle.std.proofs.lemmas.Bool.{cases_order, false≢true, ltb-true, true_from_ne_false}
use Rattle.std.proofs.lemmas.Int.{ints}
use Rattle.std.proofs.lemmas.List.FromFn.{get_or-range_with_len, length-range_with_len}
use Rattle.std.proofs.lemmas.List.Folds.{list_all_at}
use Rattle.std.specs.List.{All, list_all, range_with_len}
use Rattle.std.specs.Prelude.{◌&&◌, ◌||◌, not, ℤ, int_lt, map, reverse, slice_index, slice_index_or}
use Rattle.plane.proofs.Order.{before_asym, before_differs, before_of_precedes}
use Rattle.plane.specs.Order.{IsBefore}
use Rattle.plane.specs.Point.{Point}
use Rattle.rings.proofs.Sweeps.{precedes_later}
use Rattle.rings.specs.Ring.{vertex}
use Rattle.mono_fill.specs.Monotone.{AreRanks, Rises}
use Rattle.polygon_tests.specs.Pieces.{IsPieceRow}
use Rattle.polygon_tests.specs.Rows.{point_with}

-- ---- points that rise

-- whether a point is before another
abbrev is_before : Point → Point → Bool
is_before p q = int_lt p.x q.x || (not (int_lt q.x p.x) && int_lt p.y q.y)

-- one of two tests is true, the second where the others are false
one_true : (p q r : Bool) → (p || (not q && r)) ≡ true → (p ≡ true) ⊎ ((p ≡ false) × (q ≡ false) × (r ≡ true))
one_true true q r is = inl refl
one_true false true r is = absurd (false≢true is)
one_true false false r is = inr (refl, refl, is)

before : (p q : Point) → is_before p q ≡ true → IsBefore p q
before p q is = elim (one_true (int_lt p.x q.x) (int_lt q.x p.x) (int_lt p.y q.y) is) [
  | inl less ↦ inl (omega (arith, ints, less))
  | inr level ↦ inr (omega (arith, ints, level.0, level.1), omega (arith, ints, level.2))
]

-- whether each vertex of a list is before the next
abbrev pub rises : List Point → List ℕ → Bool
rises corners [] = true
rises corners (a ∷ []) = true
rises corners (a ∷ b ∷ path) = is_before (vertex corners a) (vertex corners b) && rises corners (b ∷ path)

both_true : (p q : Bool) → (p && q) ≡ true → (p ≡ true) × (q ≡ true)
both_true p q is = grind arith

next_rises : (corners : List Point) (path : List ℕ) → rises corners path ≡ true → (k : ℕ) → suc k < length path
    → IsBefore (vertex corners (slice_index_or path k 0)) (vertex corners (slice_index_or path (suc k) 0))
next_rises corners [] is k h = absurd (omega arith)
next_rises corners (a ∷ []) is k h = absurd (omega arith)
next_rises corners (a ∷ b ∷ path) is zero h =
    before (vertex corners a) (vertex corners b) (both_true (is_before (vertex corners a) (vertex corners b)) (rises corners (b ∷ path)) is).0
next_rises corners (a ∷ b ∷ path) is (suc k) h =
    next_rises corners (b ∷ path) (both_true (is_before (vertex corners a) (vertex corners b)) (rises corners (b ∷ path)) is).1 k (omega arith)

path_rises : (corners : List Point) (path : List ℕ) → rises corners path ≡ true → Rises corners path
path_rises corners path is k h =
    let next : k + 1 ≡ suc k = omega arith in
    rw next (next_rises corners path is k (omega arith))

-- ---- the numbers of points in order are their ranks

module _ (corners : List Point) (is : rises corners (range_with_len 0 (length corners)) ≡ true) where
  abbrev pub numbers : List ℕ
  numbers = range_with_len 0 (length corners)

  -- each number stands at its own place
  at_place : (k : ℕ) → k < length corners → slice_index numbers k ≡ k
  at_place k h = omega (arith, get_or-range_with_len 0 (length corners) k 0 h)

  step : (k : ℕ) → k + 1 < length corners → IsBefore (vertex corners k) (vertex corners (k + 1))
  step k h =
      let found = path_rises corners numbers is k (omega (arith, length-range_with_len 0 (length corners))) in
      rw (at_place k (omega arith), at_place (k + 1) h) at found

  earlier : (i j : ℕ) → i < j → j < length corners → IsBefore (vertex corners i) (vertex corners j)
  earlier i j less within =
      before_of_precedes (vertex corners i) (vertex corners j) (precedes_later (vertex corners) (length corners) step i j less within)

  by_order : (i j : ℕ) → i < length corners → j < length corners → IsBefore (vertex corners i) (vertex corners j) → i < j
  by_order i j hi hj h = elim (cases_order i j) [
    | inl e ↦ absurd (before_differs (vertex corners i) (vertex corners j) h (ap (vertex corners) e))
    | inr (inl less) ↦ less
    | inr (inr less) ↦ absurd (before_asym (vertex corners i) (vertex corners j) h (earlier j i less hi))
  ]

  pub own_ranks : AreRanks corners numbers
  own_ranks = record {
    all = length-range_with_len 0 (length corners);
    order = λ i j hi hj. rw (at_place i hi, at_place j hj) (λ less. earlier i j less hj, by_order i j hi hj);
  }

-- ---- numbers of a list

all_below : (n : ℕ) (numbers : List ℕ) → list_all (λ i. ltb i n) numbers ≡ true → All (λ i. i < n) numbers
all_below n numbers all k d h =
    ltb-true (slice_index_or numbers k d) n
    (true_from_ne_false (ltb (slice_index_or numbers k d) n) (λ bad. false≢true (sym (list_all_at (λ i. ltb i n) numbers k d h bad) ∙ all)))

-- ---- rows: where a piece is read from its least vertex on, that vertex, the lower chain, the greatest vertex and the upper chain

pub piece_row : (points : List (ℤ × ℤ)) (piece before from_least : List ℕ) (least : ℕ) (lower : List ℕ) (greatest : ℕ) (upper : List ℕ)
    → rises (map point_with points) (range_with_len 0 (length (map point_with points))) ≡ true
    → ltb 2 (length piece) ≡ true → list_all (λ i. ltb i (length (map point_with points))) piece ≡ true
    → piece ≡ before ++ from_least → from_least ++ before ≡ least ∷ (lower ++ greatest ∷ upper)
    → rises (map point_with points) (least ∷ (lower ++ greatest ∷ [])) ≡ true
    → rises (map point_with points) (least ∷ (reverse upper ++ greatest ∷ [])) ≡ true
    → IsPieceRow points piece
piece_row points piece before from_least least lower greatest upper ordered some inside parts read low high = record {
  ranks = own_ranks (map point_with points) ordered;
  some = omega (arith, ltb-true 2 (length piece) some);
  numbers = all_below (length (map point_with points)) piece inside;
  monotone = record {
    before = before;
    from_least = from_least;
    parts = parts;
    least = least;
    lower = lower;
    greatest = greatest;
    upper = upper;
    read = read;
    lower_rises = path_rises (map point_with points) (least ∷ (lower ++ greatest ∷ [])) low;
    upper_rises = path_rises (map point_with points) (least ∷ (reverse upper ++ greatest ∷ [])) high;
  };
}
