-- A rational point is on a segment, or a line separates it from the segment.
-- Points within a segment, and the side of a line on which a segment stays.
use Rattle.std.proofs.Common.{◌≡◌, ◌⊎◌, inl, inr, ℤ, pos, ◌+ℤ◌, ◌-ℤ◌, ◌*ℤ◌, neg_ℤ, ◌<ℤ◌, ◌≤ℤ◌, arith, ap}
use Rattle.std.proofs.lemmas.Int.{ints}
use Rattle.integer_algebra.proofs.Laws.{neg-mul, mul_comm, zero-mul}
use Rattle.integer_algebra.proofs.SignSteps.{not_both, not_both_positive, opposite_not_positive, opposite_positive, turned_positive}
use Rattle.integer_algebra.proofs.SignSteps.{zero_not_negative, zero_not_positive, mean_negative, mean_positive, positive_of_not_zero}
use Rattle.integer_algebra.proofs.Signs.{is_negative, is_positive, is_zero, lt_or_le, sign, factor_zero}
use Rattle.plane.proofs.Order.{rise, run}
use Rattle.plane.proofs.Points.{same_sym, whole_is_point}
use Rattle.plane.proofs.Segments.Combinations.{not_positive_between, first_end_by, same_without_first, same_without_last}
use Rattle.plane.proofs.Segments.Lengthwise.{along, along_from_square, along_is_linear, along_itself, combination_along, same_from_square}
use Rattle.plane.proofs.Segments.Lengthwise.{square, square_not_negative}
use Rattle.plane.proofs.Segments.Segments.{on_first_end, on_same_point, on_is_straight}
use Rattle.plane.proofs.Turns.{determinant_same_ends, determinant_same_last, determinant_swap_first, linear, determinant_is_linear}
use Rattle.plane.proofs.Turns.{on_of_combination, determinant_same, IsCombination, combination_of, determinant_along, weights_positive}
use Rattle.plane.specs.Prelude.{determinant, IsLeft, IsPoint, IsRight, IsSame, IsStraight, On, Point, Triple, whole}

-- a linear functional is positive at x, and not positive at a and at b
pub record Separated (x a b : Triple) : Type 0 where
  pub α : ℤ
  pub β : ℤ
  pub γ : ℤ
  pub at_point : pos 0 <ℤ linear α β γ x
  pub at_first : linear α β γ a ≤ℤ pos 0
  pub at_last : linear α β γ b ≤ℤ pos 0

-- ---- points that are separated

-- a functional with opposite coefficients has the opposite value
opposite_linear : (α β γ : ℤ) (v : Triple) → linear (neg_ℤ α) (neg_ℤ β) (neg_ℤ γ) v ≡ neg_ℤ (linear α β γ v)
opposite_linear α β γ v = omega (arith, ints, neg-mul α v.X, neg-mul β v.Y, neg-mul γ v.W)

module _ (x a b : Triple) where
  -- a point left of the line of a segment,
  separated_left : pos 0 <ℤ determinant a b x → Separated x a b
  separated_left h = record {
    α = a.Y *ℤ b.W -ℤ b.Y *ℤ a.W;
    β = b.X *ℤ a.W -ℤ a.X *ℤ b.W;
    γ = a.X *ℤ b.Y -ℤ b.X *ℤ a.Y;
    at_point = rw (← determinant_is_linear a b x) h;
    at_first = rw (← determinant_is_linear a b a) (zero_not_positive (determinant_same_ends a b));
    at_last = rw (← determinant_is_linear a b b) (zero_not_positive (determinant_same_last a b));
  }

  -- one before its first end,
  separated_before : along a b x <ℤ pos 0 → Separated x a b
  separated_before h = record {
    α = neg_ℤ (a.W *ℤ run b a);
    β = neg_ℤ (a.W *ℤ rise b a);
    γ = neg_ℤ (pos 0 -ℤ (a.X *ℤ run b a +ℤ a.Y *ℤ rise b a));
    at_point = rw (opposite_linear _ _ _ x, ← along_is_linear a b x) (opposite_positive h);
    at_first =
        rw (opposite_linear _ _ _ a, ← along_is_linear a b a) (opposite_not_positive (zero_not_negative (along_itself a b)));
    at_last = rw (opposite_linear _ _ _ b, ← along_is_linear a b b) (opposite_not_positive (square_not_negative a b));
  }

  -- and one other than its ends, where these are one point
  separated_apart : square a b ≡ pos 0 → pos 0 <ℤ square a x → Separated x a b
  separated_apart e h = record {
    α = a.W *ℤ run x a;
    β = a.W *ℤ rise x a;
    γ = pos 0 -ℤ (a.X *ℤ run x a +ℤ a.Y *ℤ rise x a);
    at_point = rw (← along_is_linear a x x) h;
    at_first = rw (← along_is_linear a x a) (zero_not_positive (along_itself a x));
    at_last = rw (← along_is_linear a x b) (zero_not_positive (along_from_square a b x e));
  }

-- the ends may change places
separated_swapped : (x a b : Triple) → Separated x b a → Separated x a b
separated_swapped x a b s =
    record { α = s.α; β = s.β; γ = s.γ; at_point = s.at_point; at_first = s.at_last; at_last = s.at_first }

-- a point that is separated from a segment is not on it
pub separated_not_on : (x a b : Triple) → IsPoint x → IsPoint a → IsPoint b → Separated x a b → ¬ (On x a b)
separated_not_on x a b at_x at_a at_b s on =
    not_both_positive s.at_point (not_positive_between x a b at_x at_a at_b s.α s.β s.γ s.at_first s.at_last on)

module _ (x a b : Triple) (at_x : IsPoint x) (at_a : IsPoint a) (at_b : IsPoint b) where
  -- where the ends are one point
  one_end : square a b ≡ pos 0 → On x a b ⊎ Separated x a b
  one_end e = elim (sign (square a x)) [
    | is_positive h ↦ inr (separated_apart x a b e h)
    | is_zero z ↦ inl (on_same_point at_a (same_sym (same_from_square x a z)) (on_first_end a b))
    | is_negative h ↦ absurd (not_both h (square_not_negative a x))
  ]

  -- on the line of the ends
  on_line_or_separated : determinant a b x ≡ pos 0 → On x a b ⊎ Separated x a b
  on_line_or_separated straight = elim (lt_or_le (along a b x) (pos 0)) [
    | inl before ↦ inr (separated_before x a b before)
    | inr first ↦ elim (lt_or_le (along b a x) (pos 0)) [
      | inl beyond ↦ inr (separated_swapped x a b (separated_before x b a beyond))
      | inr last ↦ elim (sign (square a b)) [
        | is_positive some ↦ inl (on_of_combination x a b at_x at_a at_b (combination_along a b x straight some first last))
        | is_zero none ↦ one_end none
        | is_negative h ↦ absurd (not_both h (square_not_negative a b))
      ]
    ]
  ]

  -- a point is on a segment, or separated from it
  pub on_or_separated : On x a b ⊎ Separated x a b
  on_or_separated = elim (sign (determinant a b x)) [
    | is_positive h ↦ inr (separated_left x a b h)
    | is_zero straight ↦ on_line_or_separated straight
    | is_negative h ↦ inr (separated_swapped x a b (separated_left x b a (turned_positive (determinant_swap_first a b x) h)))
  ]

-- ---- points inside a segment

-- x is on the segment from a to b, and neither of its ends
pub record IsWithin (x a b : Triple) : Type 0 where
  pub combination : IsCombination x a b
  pub first_weighs : pos 0 <ℤ combination.l
  pub last_weighs : pos 0 <ℤ combination.m

-- a point of the segment that is neither end is within it
pub within_from : (x a b : Triple) → IsPoint x → IsPoint a → IsPoint b → On x a b → ¬ (IsSame x a) → ¬ (IsSame x b) → IsWithin x a b
within_from x a b at_x at_a at_b on first last =
    let c = combination_of x a b at_x at_a at_b on in
    record {
      combination = c;
      first_weighs = positive_of_not_zero c.l_nonnegative (λ e. last (same_without_first x a b c e));
      last_weighs = positive_of_not_zero c.m_nonnegative (λ e. first (same_without_last x a b c e));
    }

-- a point is on a segment, or not
pub on_or_not : (x a b : Triple) → IsPoint x → IsPoint a → IsPoint b → On x a b ⊎ (¬ (On x a b))
on_or_not x a b at_x at_a at_b = elim (on_or_separated x a b at_x at_a at_b) [
  | inl on ↦ inl on
  | inr s ↦ inr (separated_not_on x a b at_x at_a at_b s)
]

-- ---- sides along a segment

-- a number that a positive factor makes 0 is 0
zero_by_weight : (f w g z : ℤ) → pos 0 <ℤ w → f *ℤ w ≡ g *ℤ z → g ≡ pos 0 → f ≡ pos 0
zero_by_weight f w g z hw e eg =
    factor_zero w f (λ n. omega (arith, ints)) (omega (arith, ints, mul_comm w f, ap (λ x. x *ℤ z) eg, zero-mul z))

module _ (x p q : Triple) (at_x : IsPoint x) (at_p : IsPoint p) (at_q : IsPoint q) (on : On x p q) (a b : Triple) where
  -- between points left of a line all are left of it,
  pub stays_left : IsLeft a b p → IsLeft a b q → IsLeft a b x
  stays_left hp hq =
      let c = combination_of x p q at_x at_p at_q on in
      mean_positive c.k c.l c.m _ _ _ c.k_positive c.l_nonnegative c.m_nonnegative (determinant_along x p q c a b)
      (weights_positive x p q c at_x) hp hq

  -- and between points right of it all are right of it
  pub stays_right : IsRight a b p → IsRight a b q → IsRight a b x
  stays_right hp hq =
      let c = combination_of x p q at_x at_p at_q on in
      mean_negative c.k c.l c.m _ _ _ c.k_positive c.l_nonnegative c.m_nonnegative (determinant_along x p q c a b)
      (weights_positive x p q c at_x) hp hq

-- from a point on a line to one left of it, only the first end is not left of it
pub first_end_on_line : (x p q a b : Triple) → IsPoint x → IsPoint p → IsPoint q → On x p q → IsStraight a b p → IsLeft a b q
    → determinant a b x ≤ℤ pos 0 → IsSame x p
first_end_on_line x p q a b at_x at_p at_q on straight left h =
    first_end_by x p q (combination_of x p q at_x at_p at_q on) (a.Y *ℤ b.W -ℤ b.Y *ℤ a.W) (b.X *ℤ a.W -ℤ a.X *ℤ b.W)
    (a.X *ℤ b.Y -ℤ b.X *ℤ a.Y) (rw (← determinant_is_linear a b p) straight)
    (rw (← determinant_is_linear a b q) left) (rw (← determinant_is_linear a b x) h)

-- a point that is the same as one on a line is on the line
pub same_straight : (a b x y : Triple) → IsPoint y → IsSame x y → IsStraight a b y → IsStraight a b x
same_straight a b x y at_y s straight = zero_by_weight _ _ _ _ at_y (determinant_same a b x y s) straight

-- a point left of a line is not on a segment of it,
pub left_not_on : (a b : Point) (p : Triple) → IsPoint p → IsLeft (whole a) (whole b) p → ¬ (On p (whole a) (whole b))
left_not_on a b p at_p left on =
    not_both_positive left (zero_not_positive (on_is_straight p (whole a) (whole b) at_p (whole_is_point a) (whole_is_point b) on))

-- nor is one right of it
pub right_not_on : (a b : Point) (p : Triple) → IsPoint p → IsRight (whole a) (whole b) p → ¬ (On p (whole a) (whole b))
right_not_on a b p at_p right on =
    not_both right (zero_not_negative (on_is_straight p (whole a) (whole b) at_p (whole_is_point a) (whole_is_point b) on))
