-- Points of a funnel without height: they are between the ends of the diagonal, but for an apex that sees nothing beyond.
-- An apex without height is on the diagonal, or nothing beyond the diagonal is in its window.
use Rattle.std.proofs.Common.{◌≡◌, inl, inr, sym, subst, List, length, ℕ, zero, suc, ◌+◌, ◌-◌, ◌<◌, ◌≤◌, ℤ, pos, ◌<ℤ◌, ◌≤ℤ◌, add-one, arith}
use Rattle.std.proofs.Common.{◌⊎◌, refl, ap}
use Rattle.std.proofs.lemmas.Bool.{cases_lt}
use Rattle.std.proofs.lemmas.Int.{ints}
use Rattle.integer_algebra.proofs.SignSteps.{negative_not_zero, positive_not_zero}
use Rattle.integer_algebra.proofs.Signs.{is_negative, is_positive, is_zero, sign}
use Rattle.plane.proofs.Segments.{on_first_end, on_last_end}
use Rattle.plane.specs.Prelude.{height_over, IsLeft, IsRight, IsStraight, On, Point, Triple, whole}
use Rattle.rings.specs.Chain.{point_at}
use Rattle.funnels.proofs.Funnels.CrossingDiagonal.{on_by_sides, straight_on_line, on_or_beside}
use Rattle.funnels.proofs.Funnels.Heights.{lower, lower_left, lower_right, not_negative, reaches_left, reaches_right}
use Rattle.funnels.specs.Funnel.{IsFunnel, Reaches, IsInWindow}

-- ---- points without height

-- a number between 0 and 0 is 0
squeezed : {h k : ℤ} → pos 0 ≤ℤ k → k ≤ℤ h → h ≡ pos 0 → k ≡ pos 0
squeezed m n e = omega (arith, ints)

-- nothing that is at least 0 is negative
not_less : {h k : ℤ} → k ≤ℤ h → k ≡ pos 0 → ¬ (h <ℤ pos 0)
not_less m e n = omega (arith, ints)

-- where an edge leads to a point without height, and the turn to the next such point is not straight, the point is on the diagonal
on_diagonal : (l r o p q : Point) → ¬ (l ≡ r) → Reaches o p l r → height_over l r (whole p) ≡ pos 0 → height_over l r (whole q) ≡ pos 0
    → ¬ IsStraight (whole o) (whole p) (whole q) → On (whole p) (whole l) (whole r)
on_diagonal l r o p q differ h at_p at_q turn = elim (sign (height_over l r (whole o))) [
  | is_negative n ↦ absurd (not_less (lower o p l r h) at_p n)
  | is_zero e ↦ absurd (turn (straight_on_line r l (λ s. differ (sym s)) (whole o) (whole p) (whole q) e at_p at_q))
  | is_positive above ↦ on_by_sides p l r o at_p above h.not_right h.not_left
]

-- ---- places of a funnel

-- the point at place i of a list has no height
abbrev pub IsFlat : List Point → Point → Point → ℕ → Type 0
IsFlat ns l r i = height_over l r (whole (point_at ns i)) ≡ pos 0

-- it is on the diagonal
abbrev pub IsOnDiagonal : List Point → Point → Point → ℕ → Type 0
IsOnDiagonal ns l r i = On (whole (point_at ns i)) (whole l) (whole r)

module _ (ns : List Point) (a : ℕ) (l r : Point) (f : IsFunnel ns a l r) where
  -- from a place without height on there is none, on the left,
  pub flat_left : (i : ℕ) → i < a → IsFlat ns l r (i + 1) → IsFlat ns l r i
  flat_left i h e = let within = f.apex_within in squeezed (not_negative ns a l r f i (omega arith)) (lower_left ns a l r f i h) e

  -- and on the right
  pub flat_right : (i : ℕ) → a ≤ i → i + 1 < length ns → IsFlat ns l r i → IsFlat ns l r (i + 1)
  flat_right i h k e = squeezed (not_negative ns a l r f (i + 1) k) (lower_right ns a l r f i h k) e

  -- the turns by their points: on the left,
  pub turn_left : (i : ℕ) → i + 1 < a → IsLeft (whole (point_at ns (i + 1 + 1))) (whole (point_at ns (i + 1))) (whole (point_at ns i))
  turn_left i h =
      let e : i + 1 - 1 ≡ i = omega arith in
      subst (λ n. IsLeft (whole (point_at ns (i + 1 + 1))) (whole (point_at ns (i + 1))) (whole (point_at ns n))) e
      (f.left_turns (i + 1) (omega arith) h)

  -- and on the right
  pub turn_right : (i : ℕ) → a ≤ i → i + 1 + 1 < length ns
      → IsRight (whole (point_at ns i)) (whole (point_at ns (i + 1))) (whole (point_at ns (i + 1 + 1)))
  turn_right i h k =
      let e : i + 1 - 1 ≡ i = omega arith in
      subst (λ n. IsRight (whole (point_at ns n)) (whole (point_at ns (i + 1))) (whole (point_at ns (i + 1 + 1)))) e
      (f.right_turns (i + 1) (omega arith) k)

  -- there is no turn of three points without height
  pub flat_straight : (i j k : ℕ) → IsFlat ns l r i → IsFlat ns l r j → IsFlat ns l r k
      → IsStraight (whole (point_at ns i)) (whole (point_at ns j)) (whole (point_at ns k))
  flat_straight i j k =
      straight_on_line r l (λ s. f.ends_differ (sym s)) (whole (point_at ns i)) (whole (point_at ns j)) (whole (point_at ns k))

  -- ---- off the apex

  -- the first point is on the diagonal,
  pub on_at_first : IsOnDiagonal ns l r 0
  on_at_first = subst (λ (p : Point). On (whole p) (whole l) (whole r)) (sym f.first) (on_first_end (whole l) (whole r))

  -- the last place has the right end of the diagonal,
  pub at_last : (i : ℕ) → i + 1 ≡ length ns → point_at ns i ≡ r
  at_last i e = let same : length ns - 1 ≡ i = omega arith in subst (λ n. point_at ns n ≡ r) same f.last

  -- so it is on the diagonal,
  pub on_at_last : (i : ℕ) → i + 1 ≡ length ns → IsOnDiagonal ns l r i
  on_at_last i e = subst (λ (p : Point). On (whole p) (whole l) (whole r)) (sym (at_last i e)) (on_last_end (whole l) (whole r))

  -- and each without height between the first and the apex,
  on_at_left : (i : ℕ) → i < a → IsFlat ns l r i → IsOnDiagonal ns l r i
  on_at_left zero h e = on_at_first
  on_at_left (suc i) h e =
      let flat : IsFlat ns l r (i + 1) = subst (IsFlat ns l r) (sym (add-one i)) e in
      let o = point_at ns (i + 1 + 1) in
      subst (IsOnDiagonal ns l r) (add-one i)
      (on_diagonal l r o (point_at ns (i + 1)) (point_at ns i) f.ends_differ (reaches_left ns a l r f (i + 1) (omega arith)) flat
      (flat_left i (omega arith) flat) (positive_not_zero (turn_left i (omega arith))))

  -- or between the apex and the last
  on_at_right : (i : ℕ) → a ≤ i → i + 1 < length ns → IsFlat ns l r (i + 1) → IsOnDiagonal ns l r (i + 1)
  on_at_right i h k e = elim (cases_lt (i + 1 + 1) (length ns)) [
    | inl more ↦
        on_diagonal l r (point_at ns i) (point_at ns (i + 1)) (point_at ns (i + 1 + 1)) f.ends_differ (reaches_right ns a l r f i h k) e
        (flat_right (i + 1) (omega arith) more e) (negative_not_zero (turn_right i h more))
    | inr none ↦ on_at_last (i + 1) (omega arith)
  ]

  -- a point without height other than the apex is on the diagonal
  pub flat_off_apex : (i : ℕ) → i < length ns → ¬ (i ≡ a) → height_over l r (whole (point_at ns i)) ≡ pos 0
      → On (whole (point_at ns i)) (whole l) (whole r)
  flat_off_apex i h other e = elim (cases_lt i a) [
    | inl before ↦ on_at_left i before e
    | inr after ↦
        let same : i - 1 + 1 ≡ i = omega arith in
        subst (IsOnDiagonal ns l r) same (on_at_right (i - 1) (omega arith) (omega arith) (subst (IsFlat ns l r) (sym same) e))
  ]

module _ (ns : List Point) (a : ℕ) (l r : Point) (f : IsFunnel ns a l r) (flat : height_over l r (whole (point_at ns a)) ≡ pos 0) where
  -- beside the apex is the left end of the diagonal,
  pub left_of_apex : (i : ℕ) → i + 1 ≡ a → point_at ns i ≡ l
  left_of_apex zero e = f.first
  left_of_apex (suc i) e =
      let same : a ≡ i + 1 + 1 = omega arith in
      let top = subst (IsFlat ns l r) same flat in
      let middle = flat_left ns a l r f (i + 1) (omega arith) top in
      let bottom = flat_left ns a l r f i (omega arith) middle in
      absurd (positive_not_zero (turn_left ns a l r f i (omega arith))
      (flat_straight ns a l r f (i + 1 + 1) (i + 1) i top middle bottom))

  -- and the right one
  pub right_of_apex : a + 1 < length ns → point_at ns (a + 1) ≡ r
  right_of_apex h = elim (cases_lt (a + 1 + 1) (length ns)) [
    | inl more ↦
        let middle = flat_right ns a l r f a (omega arith) h flat in
        let bottom = flat_right ns a l r f (a + 1) (omega arith) more middle in
        absurd (negative_not_zero (turn_right ns a l r f a (omega arith) more)
        (flat_straight ns a l r f a (a + 1) (a + 1 + 1) flat middle bottom))
    | inr none ↦ at_last ns a l r f (a + 1) (omega arith)
  ]

  -- so the apex is on the diagonal, or nothing beyond it is in its window
  pub flat_apex : On (whole (point_at ns a)) (whole l) (whole r) ⊎ ((y : Triple) → height_over l r y <ℤ pos 0 → ¬ IsInWindow ns a a y)
  flat_apex = elim (cases_lt 0 a) [
    | inr none ↦ let same : 0 ≡ a = omega arith in inl (subst (IsOnDiagonal ns l r) same (on_at_first ns a l r f))
    | inl some ↦ elim (cases_lt (a + 1) (length ns)) [
      | inr none ↦ let within = f.apex_within in inl (on_at_last ns a l r f a (omega arith))
      | inl more ↦ elim (on_or_beside l r (point_at ns a) flat f.ends_differ) [
        | inl on ↦ inl on
        | inr beside ↦ inr (λ y h window. elim (beside y h) [
          | inl left ↦ window.not_left (point_at ns a) l some (inl (omega arith, refl, sym (left_of_apex (a - 1) (omega arith)))) left
          | inr right ↦
              let same : a ≡ a + 1 - 1 = omega arith in
              window.not_right (point_at ns a) r more (inr (omega arith, ap (point_at ns) same, sym (right_of_apex more))) right
        ])
      ]
    ]
  ]
