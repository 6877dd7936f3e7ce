-- Two whole segments that share an end meet there alone, or elsewhere too.
use Rattle.std.proofs.Common.{◌≡◌, ◌⊎◌, inl, inr, sym, ap, ◌∙◌, ℤ, pos, ◌+ℤ◌, ◌-ℤ◌, ◌*ℤ◌, ◌<ℤ◌, arith}
use Rattle.std.proofs.lemmas.Int.{ints}
use Rattle.integer_algebra.proofs.Laws.{mul-zero, mul_comm, zero-mul}
use Rattle.integer_algebra.proofs.Signs.{cancel_equal, factor_zero}
use Rattle.integer_algebra.proofs.Weights.{balance_back, offset_from_last, on_both_rays}
use Rattle.integer_algebra.proofs.Decisions.{equal_or_not}
use Rattle.plane.proofs.Order.{before_asym, before_differs, before_or_not}
use Rattle.plane.proofs.Points.{same_whole, whole_is_point}
use Rattle.plane.proofs.Segments.{on_segment_from, combination_is_straight, on_first_end, on_last_end, on_reversed}
use Rattle.plane.proofs.Turns.{determinant_same_last, straight_shift, straight_swap_last, IsCombination, combination_of_ends, determinant_along}
use Rattle.plane.proofs.Turns.{weights_positive}
use Rattle.plane.specs.Prelude.{determinant, IsBefore, IsBetween, IsBeyond, IsSame, IsStraight, MeetElsewhere, MeetOnlyAt, Point, Triple}
use Rattle.plane.specs.Prelude.{whole}

-- ---- there alone

module _ (p : Triple) (a b : Point) (c : IsCombination p (whole a) (whole b)) where
  -- how far to the right of b a point on the segment from a to b is, times a positive number
  from_end_X : c.k *ℤ (p.X -ℤ b.x *ℤ p.W) ≡ c.l *ℤ (a.x -ℤ b.x)
  from_end_X = offset_from_last c.k c.l c.m p.X p.W a.x b.x c.in_X c.in_W

  -- and how far upward
  from_end_Y : c.k *ℤ (p.Y -ℤ b.y *ℤ p.W) ≡ c.l *ℤ (a.y -ℤ b.y)
  from_end_Y = offset_from_last c.k c.l c.m p.Y p.W a.y b.y c.in_Y c.in_W

-- where it is not away from b, it is b
same_without_offset : (p : Triple) (b : Point) → p.X -ℤ b.x *ℤ p.W ≡ pos 0 → p.Y -ℤ b.y *ℤ p.W ≡ pos 0 → IsSame p (whole b)
same_without_offset p b ex ey = record { same_x = omega (arith, ints); same_y = omega (arith, ints) }

-- without a weight there is no way
no_offset : (k l z w : ℤ) → pos 0 <ℤ k → l ≡ pos 0 → k *ℤ z ≡ l *ℤ w → z ≡ pos 0
no_offset k l z w h el e = cancel_equal z (pos 0) k h (e ∙ ap (λ x. x *ℤ w) el ∙ zero-mul w ∙ sym (mul-zero k))

-- where only the first of two numbers is not 0, it has no weight in a sum that is 0
no_weight : (k l m z f g : ℤ) → z ≡ pos 0 → g ≡ pos 0 → ¬ (f ≡ pos 0) → k *ℤ z ≡ l *ℤ f +ℤ m *ℤ g → l ≡ pos 0
no_weight k l m z f g ez eg n e =
    factor_zero f l n (mul_comm f l ∙ omega (arith, ints, ap (λ x. k *ℤ x) ez, ap (λ x. m *ℤ x) eg, mul-zero k, mul-zero m))

module _ (p : Triple) (a b c : Point)
    (to_a : IsCombination p (whole a) (whole b)) (to_c : IsCombination p (whole c) (whole b)) where
  -- where a, b, c turn, a common point is b
  turning : ¬ (IsStraight (whole a) (whole b) (whole c)) → IsSame p (whole b)
  turning turns =
      let along = determinant_along p (whole c) (whole b) to_c (whole a) (whole b) in
      let straight : determinant (whole a) (whole b) p ≡ pos 0 = combination_is_straight p (whole a) (whole b) to_a in
      let none = no_weight to_c.k to_c.l to_c.m _ _ _ straight (determinant_same_last (whole a) (whole b)) turns along in
      same_without_offset p b
      (no_offset _ _ _ _ to_c.k_positive none (from_end_X p c b to_c))
      (no_offset _ _ _ _ to_c.k_positive none (from_end_Y p c b to_c))

  -- so it is where b is a combination of a and c
  folded : IsCombination (whole b) (whole a) (whole c) → IsSame p (whole b)
  folded m =
      let some = weights_positive (whole b) (whole a) (whole c) m (whole_is_point b) in
      let zero =
      on_both_rays to_a.k to_a.l to_c.k to_c.l m.l m.m to_a.k_positive to_a.l_nonnegative to_c.k_positive to_c.l_nonnegative
      m.l_nonnegative m.m_nonnegative some
      in
      same_without_offset p b
      (zero _ _ _ (from_end_X p a b to_a) (from_end_X p c b to_c) (balance_back m.k m.l m.m b.x a.x c.x m.in_X m.in_W))
      (zero _ _ _ (from_end_Y p a b to_a) (from_end_Y p c b to_c) (balance_back m.k m.l m.m b.y a.y c.y m.in_Y m.in_W))

-- where a, b, c turn, or b comes between a and c, the segments from a to b and from b to c meet only at b
pub meet_only_at_from : (a b c : Point) → (¬ IsStraight (whole a) (whole b) (whole c)) ⊎ IsBetween a b c
    → MeetOnlyAt (whole a) (whole b) (whole c)
meet_only_at_from a b c cause p at_p on_ab on_bc =
    let to_a = combination_of_ends p a b at_p on_ab in
    let to_c = combination_of_ends p c b at_p (on_reversed p (whole b) (whole c) on_bc) in
    elim cause [
      | inl turns ↦ turning p a b c to_a to_c turns
      | inr between ↦ elim (equal_or_not (determinant (whole a) (whole b) (whole c)) (pos 0)) [
        | inr turns ↦ turning p a b c to_a to_c turns
        | inl straight ↦
            let on_ac = on_segment_from b a c (straight_swap_last (whole a) (whole b) (whole c) straight) between in
            folded p a b c to_a to_c (combination_of_ends (whole b) a c (whole_is_point b) on_ac)
      ]
    ]

-- ---- elsewhere too

module _ (a b c : Point) (straight : IsStraight (whole a) (whole b) (whole c)) where
  -- at c, where it comes between a and b
  at_c : IsBetween a c b → ¬ (c ≡ b) → MeetElsewhere (whole a) (whole b) (whole c)
  at_c between differ = record {
    point = whole c;
    rational = whole_is_point c;
    on_first = on_segment_from c a b straight between;
    on_second = on_last_end (whole b) (whole c);
    elsewhere = λ s. differ (same_whole c b s);
  }

  -- at a, where it comes between b and c
  at_a : IsBetween b a c → ¬ (a ≡ b) → MeetElsewhere (whole a) (whole b) (whole c)
  at_a between differ = record {
    point = whole a;
    rational = whole_is_point a;
    on_first = on_first_end (whole a) (whole b);
    on_second = on_segment_from a b c (straight_shift (whole a) (whole b) (whole c) straight) between;
    elsewhere = λ s. differ (same_whole a b s);
  }

  -- at the nearer of a and c, where both come before b
  both_before : IsBefore a b → IsBefore c b → MeetElsewhere (whole a) (whole b) (whole c)
  both_before ab cb = elim (before_or_not c a) [
    | inl ca ↦
        at_a (record { not_after = λ h. before_asym a b ab h.0; not_before = λ h. before_asym c a ca h.1 })
        (before_differs a b ab)
    | inr n ↦ at_c (record { not_after = λ h. before_asym c b cb h.1; not_before = λ h. n h.0 }) (before_differs c b cb)
  ]

  -- and where both come after it
  both_after : IsBefore b a → IsBefore b c → MeetElsewhere (whole a) (whole b) (whole c)
  both_after ba bc = elim (before_or_not a c) [
    | inl ac ↦
        at_a (record { not_after = λ h. before_asym a c ac h.1; not_before = λ h. before_asym b a ba h.0 })
        (λ e. before_differs b a ba (sym e))
    | inr n ↦
        at_c (record { not_after = λ h. n h.0; not_before = λ h. before_asym b c bc h.1 })
        (λ e. before_differs b c bc (sym e))
  ]

  -- so segments that fold back at a common end meet elsewhere too
  pub meet_elsewhere : IsBeyond a b c → MeetElsewhere (whole a) (whole b) (whole c)
  meet_elsewhere outside = elim outside [ inl h ↦ both_before h.0 h.1 | inr h ↦ both_after h.0 h.1 ]

-- so they do not meet only there
pub elsewhere_not_only : {a b c : Triple} → MeetElsewhere a b c → ¬ (MeetOnlyAt a b c)
elsewhere_not_only e only = e.elsewhere (only e.point e.rational e.on_first e.on_second)
