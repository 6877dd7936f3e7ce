-- A rational point is on a segment exactly if it is on the line through the ends and comes between them.
use Rattle.std.proofs.Common.{◌≡◌, ◌⊎◌, inl, inr, [], ◌∷◌, refl, sym, ◌∙◌, ℤ, pos, ◌+ℤ◌, ◌-ℤ◌, ◌*ℤ◌, ◌<ℤ◌, ◌≤ℤ◌, arith}
use Rattle.std.proofs.lemmas.Int.{ints}
use Rattle.integer_algebra.proofs.Fractions.{fraction_le_lt_trans, fraction_lt_le_trans}
use Rattle.integer_algebra.proofs.Polynomial.{var, ◌⊕◌, ◌⊖◌, ◌⊗◌, same_value, lit}
use Rattle.integer_algebra.proofs.SignSteps.{difference_positive, without_less}
use Rattle.integer_algebra.proofs.Weights.{Forward, no_balance}
use Rattle.plane.proofs.Order.{NotAfter, follows, not_after_antisym, not_after_facts, not_after_of_same, not_after_or_precedes, not_after_trans}
use Rattle.plane.proofs.Order.{precedence, precedes, rise, run, same}
use Rattle.plane.proofs.Points.{same_sym}
use Rattle.plane.proofs.Segments.Segments.{combination_is_straight, on_first_end, on_same_point, zero_of}
use Rattle.plane.proofs.Turns.{determinant_same_ends, parts, straight_shift, straight_swap_last, IsCombination, combination_of, determinant_along}
use Rattle.plane.proofs.Turns.{determinant_along_first, on_of_combination, weights_positive, determinant as det}
use Rattle.plane.specs.Prelude.{IsPoint, IsStraight, On, Precedes, Triple}

-- ---- a point on the segment is between the ends

-- the way from a point to a later one is forward
forward : (p q : Triple) → Precedes p q → Forward (run q p) (rise q p)
forward p q (inl h) = inl (omega (arith, ints))
forward p q (inr h) = let e = h.0 in let k = h.1 in inr (omega (arith, ints), omega (arith, ints))

-- the ways from the ends of a segment to a combination of them balance, in one coordinate
balance : (k l m x w u v s t : ℤ) → k *ℤ x ≡ l *ℤ u +ℤ m *ℤ s → k *ℤ w ≡ l *ℤ v +ℤ m *ℤ t
    → l *ℤ (x *ℤ v -ℤ u *ℤ w) +ℤ m *ℤ (x *ℤ t -ℤ s *ℤ w) ≡ pos 0
balance k l m x w u v s t ex ew =
    let xs = k ∷ l ∷ m ∷ x ∷ w ∷ u ∷ v ∷ s ∷ t ∷ [] in
    same_value (var 1 ⊗ (var 3 ⊗ var 6 ⊖ var 5 ⊗ var 4) ⊕ var 2 ⊗ (var 3 ⊗ var 8 ⊖ var 7 ⊗ var 4))
    (var 3 ⊗ (var 1 ⊗ var 6 ⊕ var 2 ⊗ var 8) ⊖ (var 1 ⊗ var 5 ⊕ var 2 ⊗ var 7) ⊗ var 4) xs refl
    ∙ (λ i. x *ℤ sym ew i -ℤ sym ex i *ℤ w)
    ∙ same_value (var 3 ⊗ (var 0 ⊗ var 4) ⊖ (var 0 ⊗ var 3) ⊗ var 4) (var 0 ⊖ var 0) xs refl
    ∙ omega (arith, ints)

-- so do the ways back
balance_back : (k l m x w u v s t : ℤ) → k *ℤ x ≡ l *ℤ u +ℤ m *ℤ s → k *ℤ w ≡ l *ℤ v +ℤ m *ℤ t
    → l *ℤ (u *ℤ w -ℤ x *ℤ v) +ℤ m *ℤ (s *ℤ w -ℤ x *ℤ t) ≡ pos 0
balance_back k l m x w u v s t ex ew =
    same_value (var 1 ⊗ (var 5 ⊗ var 4 ⊖ var 3 ⊗ var 6) ⊕ var 2 ⊗ (var 7 ⊗ var 4 ⊖ var 3 ⊗ var 8))
    (lit (pos 0) ⊖ (var 1 ⊗ (var 3 ⊗ var 6 ⊖ var 5 ⊗ var 4) ⊕ var 2 ⊗ (var 3 ⊗ var 8 ⊖ var 7 ⊗ var 4)))
    (k ∷ l ∷ m ∷ x ∷ w ∷ u ∷ v ∷ s ∷ t ∷ []) refl
    ∙ (λ i. pos 0 -ℤ balance k l m x w u v s t ex ew i)

module _ (p a b : Triple) (at_p : IsPoint p) (at_a : IsPoint a) (at_b : IsPoint b) (on : On p a b) where
  -- a point on a segment is not after both ends
  pub not_after_both : ¬ (Precedes a p × Precedes b p)
  not_after_both h =
      let c = combination_of p a b at_p at_a at_b on in
      no_balance c.l c.m _ _ _ _ c.l_nonnegative c.m_nonnegative (weights_positive p a b c at_p)
      (balance c.k c.l c.m p.X p.W a.X a.W b.X b.W c.in_X c.in_W)
      (balance c.k c.l c.m p.Y p.W a.Y a.W b.Y b.W c.in_Y c.in_W)
      (forward a p h.0) (forward b p h.1)

  -- and not before both
  pub not_before_both : ¬ (Precedes p a × Precedes p b)
  not_before_both h =
      let c = combination_of p a b at_p at_a at_b on in
      no_balance c.l c.m _ _ _ _ c.l_nonnegative c.m_nonnegative (weights_positive p a b c at_p)
      (balance_back c.k c.l c.m p.X p.W a.X a.W b.X b.W c.in_X c.in_W)
      (balance_back c.k c.l c.m p.Y p.W a.Y a.W b.Y b.W c.in_Y c.in_W)
      (forward p a h.0) (forward p b h.1)

  -- so it is not after one of them,
  pub on_not_after : NotAfter p a ⊎ NotAfter p b
  on_not_after = elim (not_after_or_precedes a p) [
    | inr h ↦ inl h
    | inl h ↦ elim (not_after_or_precedes b p) [ inr k ↦ inr k | inl k ↦ absurd (not_after_both (h, k)) ]
  ]

  -- and one is not after it
  pub on_not_before : NotAfter a p ⊎ NotAfter b p
  on_not_before = elim (not_after_or_precedes p a) [
    | inr h ↦ inl h
    | inl h ↦ elim (not_after_or_precedes p b) [ inr k ↦ inr k | inl k ↦ absurd (not_before_both (h, k)) ]
  ]

-- ---- a point on the line and between the ends is on the segment

-- the coordinate that weighs: x and w of p, u and v of a, s and t of b
weighing : (x w u v s t : ℤ) → (s *ℤ v -ℤ u *ℤ t) *ℤ x ≡ (s *ℤ w -ℤ x *ℤ t) *ℤ u +ℤ (x *ℤ v -ℤ u *ℤ w) *ℤ s
weighing x w u v s t =
    same_value ((var 4 ⊗ var 3 ⊖ var 2 ⊗ var 5) ⊗ var 0)
    ((var 4 ⊗ var 1 ⊖ var 0 ⊗ var 5) ⊗ var 2 ⊕ (var 0 ⊗ var 3 ⊖ var 2 ⊗ var 1) ⊗ var 4) (x ∷ w ∷ u ∷ v ∷ s ∷ t ∷ []) refl

-- the weight
weights : (x w u v s t : ℤ) → (s *ℤ v -ℤ u *ℤ t) *ℤ w ≡ (s *ℤ w -ℤ x *ℤ t) *ℤ v +ℤ (x *ℤ v -ℤ u *ℤ w) *ℤ t
weights x w u v s t =
    same_value ((var 4 ⊗ var 3 ⊖ var 2 ⊗ var 5) ⊗ var 1)
    ((var 4 ⊗ var 1 ⊖ var 0 ⊗ var 5) ⊗ var 3 ⊕ (var 0 ⊗ var 3 ⊖ var 2 ⊗ var 1) ⊗ var 5) (x ∷ w ∷ u ∷ v ∷ s ∷ t ∷ []) refl

-- a part that is 0 may be left out
without : (x y d : ℤ) → x ≡ y +ℤ d → d ≡ pos 0 → x ≡ y
without x y d e h = omega (arith, ints)

-- what is not after another is not to its right
at_most : (p q : Triple) → NotAfter p q → pos 0 ≤ℤ run q p
at_most p q (inl h) = omega (arith, ints)
at_most p q (inr h) = let e = h.0 in omega (arith, ints)

-- and above it only farther left
at_most_upward : (p q : Triple) → ¬ ((p.X *ℤ q.W) <ℤ (q.X *ℤ p.W)) → NotAfter p q → pos 0 ≤ℤ rise q p
at_most_upward p q n (inl h) = absurd (n h)
at_most_upward p q n (inr h) = let e = h.1 in omega (arith, ints)

module _ (p a b : Triple) (straight : IsStraight a b p) where
  -- the other coordinate, where the run weighs
  other_Y : run b a *ℤ p.Y ≡ run b p *ℤ a.Y +ℤ run p a *ℤ b.Y
  other_Y =
      without _ _ _
      (same_value ((var 3 ⊗ var 2 ⊖ var 0 ⊗ var 5) ⊗ var 7)
      ((var 3 ⊗ var 8 ⊖ var 6 ⊗ var 5) ⊗ var 1 ⊕ (var 6 ⊗ var 2 ⊖ var 0 ⊗ var 8) ⊗ var 4 ⊕ det 0 1 2)
      (parts (a ∷ b ∷ p ∷ []) []) refl) straight

  -- and where the rise does
  other_X : rise b a *ℤ p.X ≡ rise b p *ℤ a.X +ℤ rise p a *ℤ b.X
  other_X =
      without_less
      (same_value ((var 4 ⊗ var 2 ⊖ var 1 ⊗ var 5) ⊗ var 6)
      ((var 4 ⊗ var 8 ⊖ var 7 ⊗ var 5) ⊗ var 0 ⊕ (var 7 ⊗ var 2 ⊖ var 1 ⊗ var 8) ⊗ var 3 ⊖ det 0 1 2)
      (parts (a ∷ b ∷ p ∷ []) []) refl) straight

  module _ (at_p : IsPoint p) (at_a : IsPoint a) (at_b : IsPoint b) (first : NotAfter a p) (last : NotAfter p b) where
    -- where the last end is farther right
    by_X : (a.X *ℤ b.W) <ℤ (b.X *ℤ a.W) → IsCombination p a b
    by_X h = record {
      k = run b a;
      l = run b p;
      m = run p a;
      k_positive = difference_positive h;
      l_nonnegative = at_most p b last;
      m_nonnegative = at_most a p first;
      in_X = weighing p.X p.W a.X a.W b.X b.W;
      in_Y = other_Y;
      in_W = weights p.X p.W a.X a.W b.X b.W;
    }

    -- where the ends are on one vertical, the point is not left of it,
    not_left : a.X *ℤ b.W ≡ b.X *ℤ a.W → ¬ ((p.X *ℤ b.W) <ℤ (b.X *ℤ p.W))
    not_left e h =
        let left = fraction_lt_le_trans p.X p.W b.X b.W a.X a.W at_p at_b at_a h (omega (arith, ints)) in
        let k = at_most a p first in
        omega (arith, ints)

    -- nor right of it
    not_right : a.X *ℤ b.W ≡ b.X *ℤ a.W → ¬ ((a.X *ℤ p.W) <ℤ (p.X *ℤ a.W))
    not_right e h =
        let right = fraction_le_lt_trans b.X b.W a.X a.W p.X p.W at_b at_a at_p (omega (arith, ints)) h in
        let k = at_most p b last in
        omega (arith, ints)

    -- where they are, and the last end is above
    by_Y : a.X *ℤ b.W ≡ b.X *ℤ a.W → (a.Y *ℤ b.W) <ℤ (b.Y *ℤ a.W) → IsCombination p a b
    by_Y e h = record {
      k = rise b a;
      l = rise b p;
      m = rise p a;
      k_positive = difference_positive h;
      l_nonnegative = at_most_upward p b (not_left e) last;
      m_nonnegative = at_most_upward a p (not_right e) first;
      in_X = other_X;
      in_Y = weighing p.Y p.W a.Y a.W b.Y b.W;
      in_W = weights p.Y p.W a.Y a.W b.Y b.W;
    }

    -- a point on the line that is not before the first end and not after the last is on the segment
    pub on_from_order : On p a b
    on_from_order = elim (precedence a b) [
      | precedes h ↦ on_of_combination p a b at_p at_a at_b (elim h [ inl k ↦ by_X k | inr k ↦ by_Y k.0 k.1 ])
      | same s ↦
          let back = not_after_trans p b a at_p at_b at_a last (not_after_of_same b a (same_sym s)) in
          on_same_point at_a (same_sym (not_after_antisym p a back first)) (on_first_end a b)
      | follows h ↦ absurd (not_after_facts a b (not_after_trans a p b at_a at_p at_b first last) h)
    ]

-- ---- three points on one segment

-- three points on one segment are on one line
pub straight_on : (p q r a b : Triple) → IsPoint p → IsPoint q → IsPoint r → IsPoint a → IsPoint b → On p a b → On q a b → On r a b
    → IsStraight p q r
straight_on p q r a b at_p at_q at_r at_a at_b on_p on_q on_r =
    let c = combination_of p a b at_p at_a at_b on_p in
    let e = combination_of r a b at_r at_a at_b on_r in
    let straight = combination_is_straight q a b (combination_of q a b at_q at_a at_b on_q) in
    let first : IsStraight a q r =
    zero_of e.k e.l e.m _ _ _ e.k_positive (determinant_same_ends a q) (straight_swap_last a b q straight) (determinant_along r a b e a q) in
    let last : IsStraight b q r =
    zero_of e.k e.l e.m _ _ _ e.k_positive (straight_shift a b q straight) (determinant_same_ends b q) (determinant_along r a b e b q) in
    zero_of c.k c.l c.m _ _ _ c.k_positive first last (determinant_along_first p a b c q r)
