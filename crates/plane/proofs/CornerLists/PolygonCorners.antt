-- The corners of a polygon, by their numbers: each is in it, and so are its sides; the least corner is its first point.
use Rattle.std.proofs.Common.{◌≡◌, ◌⊎◌, inl, inr, refl, sym, subst, ap, ◌∙◌, ℕ, zero, suc, ◌+◌, ◌-◌, ◌%◌, ◌<◌, ◌≤◌, List, length, pos, arith}
use Rattle.std.proofs.Math.Nat.{mod-eq_of_lt, mod_self}
use Rattle.std.proofs.lemmas.Bool.{cases_eq, cases_lt}
use Rattle.std.specs.Prelude.{slice_index_or}
use Rattle.integer_algebra.proofs.SignSteps.{not_both, weak, zero_not_negative}
use Rattle.plane.proofs.CornerLists.SidesOfSets.{IsSide, least_at_corner, on_side}
use Rattle.plane.proofs.Order.{NotAfter, not_after_from}
use Rattle.plane.proofs.Turns.{determinant_same_ends, determinant_same_last}
use Rattle.plane.specs.Prelude.{IsLeft, IsPoint, IsRight, Triple}
use Rattle.plane.specs.Region.{AreCorners, IsRightOfNone, corner_at}

-- ---- numbers

-- j is the number after i, counted round n
abbrev pub IsNext : ℕ → ℕ → ℕ → Type 0
IsNext n i j = (i + 1 ≡ j) ⊎ ((i + 1 ≡ n) × (j ≡ 0))

-- each number has one before it,
before : (n i : ℕ) → i < n → (k : ℕ) × (k < n) × IsNext n k i
before n zero h = (n - 1, omega arith, inr (omega arith, refl))
before n (suc i) h = (i, omega arith, inl (omega arith))

-- and one after it
after : (n i : ℕ) → i < n → (j : ℕ) × (j < n) × IsNext n i j
after n i h = elim (cases_lt (i + 1) n) [
  | inl within ↦ (i + 1, within, inl refl)
  | inr past ↦ (0, omega arith, inr (omega arith, refl))
]

-- of three numbers or more one is not the next to itself,
not_own_next : (n i j : ℕ) → 3 ≤ n → IsNext n i j → ¬ (i ≡ j)
not_own_next n i j three (inl e) same = omega arith
not_own_next n i j three (inr e) same = omega (arith, e.0, e.1)

-- nor to the next one
pub not_second_next : (n i j k : ℕ) → 3 ≤ n → IsNext n i j → IsNext n j k → ¬ (i ≡ k)
not_second_next n i j k three (inl e) (inl f) same = omega arith
not_second_next n i j k three (inl e) (inr f) same = omega (arith, f.0, f.1)
not_second_next n i j k three (inr e) (inl f) same = omega (arith, e.0, e.1)
not_second_next n i j k three (inr e) (inr f) same = omega (arith, e.0, e.1, f.0, f.1)

-- the next number is the sum, counted round
next_is : (n i j : ℕ) → j < n → IsNext n i j → (i + 1) % n ≡ j
next_is n i j h (inl e) = ap (λ k. k % n) e ∙ mod-eq_of_lt h
next_is n i j h (inr e) = ap (λ k. k % n) e.0 ∙ mod_self n ∙ sym e.1

-- ---- corners

-- no corner
abbrev nowhere : Triple
nowhere = record { X = pos 0; Y = pos 0; W = pos 1 }

-- the corner after corner i is the one with the next number
corner_next : (c : List Triple) (i j : ℕ) → j < length c → IsNext (length c) i j → corner_at c (i + 1) ≡ corner_at c j
corner_next c i j h next =
    ap (λ k. slice_index_or c k nowhere) (next_is (length c) i j h next ∙ sym (mod-eq_of_lt h))

module _ (c : List Triple) (are : AreCorners c) (three : 3 ≤ length c) where
  -- a third corner is left of a side,
  pub left_of_side : (i j k : ℕ) → i < length c → j < length c → k < length c → IsNext (length c) i j → ¬ (k ≡ i) → ¬ (k ≡ j)
      → IsLeft (corner_at c i) (corner_at c j) (corner_at c k)
  left_of_side i j k in_i in_j in_k next not_first not_last =
      subst (λ (b : Triple). IsLeft (corner_at c i) b (corner_at c k)) (corner_next c i j in_j next)
      (are.convex three i k in_i in_k not_first (λ e. not_last (e ∙ next_is (length c) i j in_j next)))

  -- and what is right of no side is not right of it
  not_right_of_side : (p : Triple) → IsRightOfNone c p → (i j : ℕ) → i < length c → j < length c → IsNext (length c) i j
      → ¬ IsRight (corner_at c i) (corner_at c j) p
  not_right_of_side p none i j in_i in_j next right =
      none i in_i (subst (λ (b : Triple). IsRight (corner_at c i) b p) (sym (corner_next c i j in_j next)) right)

  -- each corner is right of no side
  pub corner_right_of_none : (k : ℕ) → k < length c → IsRightOfNone c (corner_at c k)
  corner_right_of_none k in_k i in_i right =
      let (j, in_j, next) = after (length c) i in_i in
      let turned = subst (λ (b : Triple). IsRight (corner_at c i) b (corner_at c k)) (corner_next c i j in_j next) right in
      elim (cases_eq k i) [
        | inl e ↦
            let own = subst (λ l. IsRight (corner_at c i) (corner_at c j) (corner_at c l)) e turned in
            not_both own (zero_not_negative (determinant_same_ends (corner_at c i) (corner_at c j)))
        | inr not_first ↦ elim (cases_eq k j) [
          | inl e ↦
              let own = subst (λ l. IsRight (corner_at c i) (corner_at c j) (corner_at c l)) e turned in
              not_both own (zero_not_negative (determinant_same_last (corner_at c i) (corner_at c j)))
          | inr not_last ↦
              not_both turned (weak (left_of_side i j k in_i in_j in_k next not_first not_last))
        ]
      ]

  -- the way from each corner to the next is a side of the polygon
  pub polygon_side : (i j : ℕ) → i < length c → j < length c → IsNext (length c) i j
      → IsSide (IsRightOfNone c) (corner_at c i) (corner_at c j)
  polygon_side i j in_i in_j next =
      let (k, in_k, next_i) = before (length c) i in_i in
      let (l, in_l, next_j) = after (length c) j in_j in
      let n : ℕ = length c in
      let apart = not_own_next n i j three next in
      let first = left_of_side k i j in_k in_i in_j next_i (λ e. not_second_next n k i j three next_i next (sym e)) (λ e. apart (sym e)) in
      let last = left_of_side j l i in_j in_l in_i next_j apart (not_second_next n i j l three next next_j) in
      record {
        first_rational = are.rational i in_i;
        last_rational = are.rational j in_j;
        last_in_set = corner_right_of_none j in_j;
        none_right = λ p at none. not_right_of_side p none i j in_i in_j next;
        on_line = λ p at none straight.
            on_side (corner_at c k) (corner_at c i) (corner_at c j) (corner_at c l) p (are.rational i in_i) (are.rational j in_j) at
            first last (not_right_of_side p none k i in_k in_i next_i) (not_right_of_side p none j l in_j in_l next_j) straight;
      }

  -- and no point of it precedes the first corner
  pub first_is_least : (p : Triple) → IsPoint p → IsRightOfNone c p → NotAfter (corner_at c 0) p
  first_is_least p at none =
      let n : ℕ = length c in
      let last : ℕ = n - 1 in
      let in_first : 0 < n = omega arith in
      let in_second : 1 < n = omega arith in
      let in_last : last < n = omega arith in
      let to_first : IsNext n last 0 = inr (omega arith, refl) in
      let turns = left_of_side 0 1 last in_first in_second in_last (inl refl) (λ e. omega arith) (λ e. omega arith) in
      least_at_corner (corner_at c last) (corner_at c 0) (corner_at c 1) p turns
      (not_right_of_side p none last 0 in_last in_first to_first) (not_right_of_side p none 0 1 in_first in_second (inl refl))
      (not_after_from (corner_at c 0) (corner_at c last) (are.least last in_last))
      (not_after_from (corner_at c 0) (corner_at c 1) (are.least 1 in_second))
