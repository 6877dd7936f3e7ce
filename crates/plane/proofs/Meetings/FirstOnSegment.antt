-- The first point of a segment on the way from one point of its line to another.
-- On the way from one rational point to another there is a first point of a segment, or the way does not meet it.
use Rattle.std.proofs.Common.{◌≡◌, ◌⊎◌, inl, inr, [], ◌∷◌, refl, sym, ◌∙◌, ℤ, pos, ◌+ℤ◌, ◌-ℤ◌, ◌*ℤ◌, ◌<ℤ◌, ◌≤ℤ◌, arith}
use Rattle.std.proofs.lemmas.Int.{ints}
use Rattle.integer_algebra.proofs.Laws.{mul_comm}
use Rattle.integer_algebra.proofs.Polynomial.{var, lit, ◌⊕◌, ◌⊖◌, ◌⊗◌, same_value}
use Rattle.integer_algebra.proofs.SignSteps.{mean_negative, mean_not_negative, not_both, weak, zero_not_negative, turned_positive}
use Rattle.integer_algebra.proofs.SignSteps.{zero_not_positive}
use Rattle.integer_algebra.proofs.Signs.{factor_positive, lt_or_le, mul_nonnegative, mul_positive, is_negative, is_positive, is_zero, sign}
use Rattle.plane.proofs.Meetings.FirstMeeting.{First, first_in_direction, first_swapped}
use Rattle.plane.proofs.Order.{rise, run}
use Rattle.plane.proofs.Points.{same_sym}
use Rattle.plane.proofs.Segments.{combination_is_straight, on_first_end, along, along_is_linear, along_itself, square, square_not_negative}
use Rattle.plane.proofs.Segments.{weighed_W, weighed_X_on_line, weighed_Y_on_line, meet_reversed_second, on_reversed, on_same_point}
use Rattle.plane.proofs.Segments.{first_end_by, along_from_square, combination_along, same_from_square, square_swapped, on_or_separated}
use Rattle.plane.proofs.Segments.{separated_not_on}
use Rattle.plane.proofs.Turns.{IsCombination, combination_of, linear_along, on_of_combination, weights_positive, determinant_same_ends}
use Rattle.plane.proofs.Turns.{determinant_same_last, determinant_swap_first, straight_swap_first, determinant_is_linear}
use Rattle.plane.specs.Prelude.{determinant, IsPoint, IsStraight, Meet, On, Triple}

-- how far a combination of two points is along a segment
along_at : (a b z y t : Triple) (c : IsCombination z y t) → c.k *ℤ along a b z ≡ c.l *ℤ along a b y +ℤ c.m *ℤ along a b t
along_at a b z y t c = rw (along_is_linear a b z, along_is_linear a b y, along_is_linear a b t) (linear_along z y t c _ _ _)

-- one coordinate: r y and r t are sums of multiples of a and b
cancelled : (r e f g h y t a b : ℤ) → r *ℤ y ≡ e *ℤ a +ℤ f *ℤ b → r *ℤ t ≡ g *ℤ a +ℤ h *ℤ b
    → (h *ℤ e -ℤ f *ℤ g) *ℤ a ≡ (r *ℤ h) *ℤ y +ℤ (r *ℤ (pos 0 -ℤ f)) *ℤ t
cancelled r e f g h y t a b ey et =
    same_value ((var 3 ⊗ var 0 ⊖ var 1 ⊗ var 2) ⊗ var 4)
    (var 3 ⊗ (var 0 ⊗ var 4 ⊕ var 1 ⊗ var 5) ⊖ var 1 ⊗ (var 2 ⊗ var 4 ⊕ var 3 ⊗ var 5)) (e ∷ f ∷ g ∷ h ∷ a ∷ b ∷ []) refl
    ∙ (λ i. h *ℤ sym ey i -ℤ f *ℤ sym et i)
    ∙ same_value (var 2 ⊗ (var 0 ⊗ var 3) ⊖ var 1 ⊗ (var 0 ⊗ var 4))
    ((var 0 ⊗ var 2) ⊗ var 3 ⊕ (var 0 ⊗ (lit (pos 0) ⊖ var 1)) ⊗ var 4) (r ∷ f ∷ h ∷ y ∷ t ∷ []) refl

-- a factor is positive where its product with a weight is a sum of such products
weight_from : (k l m a v w : ℤ) → pos 0 <ℤ a → pos 0 <ℤ v → pos 0 <ℤ w → pos 0 ≤ℤ l → pos 0 <ℤ m → k *ℤ a ≡ l *ℤ v +ℤ m *ℤ w
    → pos 0 <ℤ k
weight_from k l m a v w ha hv hw hl hm e =
    factor_positive a k ha (omega (arith, ints, e, mul_comm a k, mul_nonnegative l v hl (weak hv), mul_positive m w hm hw))

-- nothing less a negative number is positive
difference_positive : {z : ℤ} → z <ℤ pos 0 → pos 0 <ℤ (pos 0 -ℤ z)
difference_positive h = omega (arith, ints)

-- the segment from a to b has two different ends, and y is before a
module _ (y a b : Triple) (at_y : IsPoint y) (at_a : IsPoint a) (at_b : IsPoint b) (some : pos 0 <ℤ square a b)
    (straight : IsStraight a b y) (early : along a b y <ℤ pos 0) where
  -- a is on the way from y to a point of the line that is not before a
  on_way_to : (t : Triple) → IsPoint t → IsStraight a b t → pos 0 ≤ℤ along a b t → On a y t
  on_way_to t at_t line late =
      let weights = cancelled (square a b) (along b a y) (along a b y) (along b a t) (along a b t) in
      let in_X = weights y.X t.X a.X b.X (weighed_X_on_line a b y straight) (weighed_X_on_line a b t line) in
      let in_Y = weights y.Y t.Y a.Y b.Y (weighed_Y_on_line a b y straight) (weighed_Y_on_line a b t line) in
      let in_W = weights y.W t.W a.W b.W (weighed_W a b y) (weighed_W a b t) in
      let l = mul_nonnegative (square a b) (along a b t) (weak some) late in
      let m = mul_positive (square a b) (pos 0 -ℤ along a b y) some (difference_positive early) in
      on_of_combination a y t at_a at_y at_t (record {
        k = along a b t *ℤ along b a y -ℤ along a b y *ℤ along b a t;
        l = square a b *ℤ along a b t;
        m = square a b *ℤ (pos 0 -ℤ along a b y);
        k_positive = weight_from _ _ _ a.W y.W t.W at_a at_y at_t l m in_W;
        l_nonnegative = l;
        m_nonnegative = weak m;
        in_X = in_X;
        in_Y = in_Y;
        in_W = in_W;
      })

  -- a point of the segment is not before a
  late_on_segment : (z : Triple) → IsCombination z a b → pos 0 ≤ℤ along a b z
  late_on_segment z c =
      mean_not_negative c.k c.l c.m _ _ _ c.k_positive c.l_nonnegative c.m_nonnegative (along_at a b z a b c)
      (zero_not_negative (along_itself a b)) (square_not_negative a b)

  -- so a is the first point of the segment on the way to a point of the line, or the way does not meet the segment
  pub first_on_line : (t : Triple) → IsPoint t → IsStraight a b t → First y t a b ⊎ (¬ Meet y t a b)
  first_on_line t at_t line = elim (lt_or_le (along a b t) (pos 0)) [
    | inl early_too ↦ inr (λ m.
        let c = combination_of m.point y t m.rational at_y at_t m.on_first in
        let d = combination_of m.point a b m.rational at_a at_b m.on_second in
        let here = along_at a b m.point y t c in
        let some_weight = weights_positive m.point y t c m.rational in
        not_both
        (mean_negative c.k c.l c.m _ _ _ c.k_positive c.l_nonnegative c.m_nonnegative here some_weight early early_too)
        (late_on_segment m.point d))
    | inr late ↦ inl (record {
      point = a;
      rational = at_a;
      on_way = on_way_to t at_t line late;
      on_segment = on_first_end a b;
      before = λ z at_z way on.
          let c = combination_of z a b at_z at_a at_b on in
          on_way_to z at_z (combination_is_straight z a b c) (late_on_segment z c);
    })
  ]

-- there is a first point, or the way does not meet the segment
abbrev FirstOrNone : Triple → Triple → Triple → Triple → Type 0
FirstOrNone y t a b = First y t a b ⊎ (¬ Meet y t a b)

-- the ends of the segment may change places
swapped_cases : (y t a b : Triple) → FirstOrNone y t b a → FirstOrNone y t a b
swapped_cases y t a b (inl f) = inl (first_swapped y t a b f)
swapped_cases y t a b (inr n) = inr (λ m. n (meet_reversed_second y t a b m))

module _ (y t : Triple) (at_y : IsPoint y) (at_t : IsPoint t) where
  -- from a point left of the segment's line
  from_left : (a b : Triple) → IsPoint a → IsPoint b → pos 0 <ℤ determinant a b y → FirstOrNone y t a b
  from_left a b at_a at_b h =
      first_in_direction (a.Y *ℤ b.W -ℤ b.Y *ℤ a.W) (b.X *ℤ a.W -ℤ a.X *ℤ b.W) (a.X *ℤ b.Y -ℤ b.X *ℤ a.Y) y t at_y at_t
      (rw (← determinant_is_linear a b y) h) a b at_a at_b
      (sym (determinant_is_linear a b a) ∙ determinant_same_ends a b)
      (sym (determinant_is_linear a b b) ∙ determinant_same_last a b)

  -- to a point left of it, from one that is on the line and not on the segment
  leaving : (a b : Triple) → IsPoint a → IsPoint b → IsStraight a b y → pos 0 <ℤ determinant a b t → ¬ (On y a b)
      → ¬ (Meet y t a b)
  leaving a b at_a at_b straight h off m =
      let z = m.point in
      let at_z = m.rational in
      let line = combination_is_straight z a b (combination_of z a b at_z at_a at_b m.on_second) in
      let same =
      first_end_by z y t (combination_of z y t at_z at_y at_t m.on_first) _ _ _ (sym (determinant_is_linear a b y) ∙ straight)
      (rw (← determinant_is_linear a b t) h) (zero_not_positive (sym (determinant_is_linear a b z) ∙ line)) in
      off (on_same_point at_z same m.on_second)

  -- from a point other than the ends, where these are one point
  one_end : (a b : Triple) → IsPoint a → IsPoint b → square a b ≡ pos 0 → pos 0 <ℤ square a y → FirstOrNone y t a b
  one_end a b at_a at_b e h =
      first_in_direction (a.W *ℤ run y a) (a.W *ℤ rise y a) (pos 0 -ℤ (a.X *ℤ run y a +ℤ a.Y *ℤ rise y a)) y t at_y at_t
      (rw (← along_is_linear a y y) h) a b at_a at_b
      (sym (along_is_linear a y a) ∙ along_itself a y)
      (sym (along_is_linear a y b) ∙ along_from_square a b y e)

  -- from a point of the line of two different ends, not on the segment, to a point of that line
  along_line : (a b : Triple) → IsPoint a → IsPoint b → pos 0 <ℤ square a b → IsStraight a b y → IsStraight a b t → ¬ (On y a b)
      → FirstOrNone y t a b
  along_line a b at_a at_b some straight line off = elim (lt_or_le (along a b y) (pos 0)) [
    | inl early ↦ first_on_line y a b at_y at_a at_b some straight early t at_t line
    | inr first ↦ elim (lt_or_le (along b a y) (pos 0)) [
      | inl early ↦
          swapped_cases y t a b
          (first_on_line y b a at_y at_b at_a (rw (square_swapped a b) some) (straight_swap_first a b y straight) early t at_t
          (straight_swap_first a b t line))
      | inr last ↦ absurd (off (on_of_combination y a b at_y at_a at_b (combination_along a b y straight some first last)))
    ]
  ]

  -- to any point
  from_line : (a b : Triple) → IsPoint a → IsPoint b → pos 0 <ℤ square a b → IsStraight a b y → ¬ (On y a b)
      → FirstOrNone y t a b
  from_line a b at_a at_b some straight off = elim (sign (determinant a b t)) [
    | is_positive h ↦ inr (leaving a b at_a at_b straight h off)
    | is_zero line ↦ along_line a b at_a at_b some straight line off
    | is_negative h ↦
        swapped_cases y t a b
        (inr (leaving b a at_b at_a (straight_swap_first a b y straight) (turned_positive (determinant_swap_first a b t) h)
        (λ on. off (on_reversed y b a on))))
  ]

  -- from a point that is not on a segment of one point
  one_point : (a b : Triple) → IsPoint a → IsPoint b → square a b ≡ pos 0 → ¬ (On y a b) → FirstOrNone y t a b
  one_point a b at_a at_b e off = elim (sign (square a y)) [
    | is_positive h ↦ one_end a b at_a at_b e h
    | is_zero z ↦ absurd (off (on_same_point at_a (same_sym (same_from_square y a z)) (on_first_end a b)))
    | is_negative h ↦ absurd (not_both h (square_not_negative a y))
  ]

  -- from any point that is not on the segment
  from_outside : (a b : Triple) → IsPoint a → IsPoint b → ¬ (On y a b) → FirstOrNone y t a b
  from_outside a b at_a at_b off = elim (sign (determinant a b y)) [
    | is_positive h ↦ from_left a b at_a at_b h
    | is_negative h ↦ swapped_cases y t a b (from_left b a at_b at_a (turned_positive (determinant_swap_first a b y) h))
    | is_zero straight ↦ elim (sign (square a b)) [
      | is_positive some ↦ from_line a b at_a at_b some straight off
      | is_zero e ↦ one_point a b at_a at_b e off
      | is_negative h ↦ absurd (not_both h (square_not_negative a b))
    ]
  ]

  -- on the way from y to t there is a first point of the segment from a to b, or the way does not meet it
  pub first_or_none : (a b : Triple) → IsPoint a → IsPoint b → First y t a b ⊎ (¬ Meet y t a b)
  first_or_none a b at_a at_b = elim (on_or_separated y a b at_y at_a at_b) [
    | inl on ↦ inl (record {
      point = y;
      rational = at_y;
      on_way = on_first_end y t;
      on_segment = on;
      before = λ z at_z way on_z. on_first_end y z;
    })
    | inr s ↦ from_outside a b at_a at_b (separated_not_on y a b at_y at_a at_b s)
  ]
