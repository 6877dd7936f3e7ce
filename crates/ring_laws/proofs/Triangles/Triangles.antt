-- Closed triangles: their corners, the points on their sides, segments within them, and heights over a side.
use Rattle.std.proofs.Common.{◌≡◌, ◌⊎◌, inl, inr, ap, ℤ, pos, ◌+ℤ◌, ◌-ℤ◌, ◌*ℤ◌, neg_ℤ, ◌≤ℤ◌, arith}
use Rattle.std.proofs.lemmas.Int.{ints}
use Rattle.integer_algebra.proofs.Laws.{neg-mul, zero-mul}
use Rattle.integer_algebra.proofs.SignSteps.{at_least_unless, mean_not_negative, not_below, positive_of_not_zero, weak, zero_not_negative}
use Rattle.integer_algebra.proofs.Signs.{lt_or_le}
use Rattle.plane.proofs.Points.{whole_is_point}
use Rattle.plane.proofs.Turns.{determinant_same_ends, determinant_same_last, determinant_shift, determinant_shift_back, determinant_swap_first}
use Rattle.plane.proofs.Turns.{four_triples_in_W, four_triples_in_X, four_triples_in_Y, IsCombination, combination_of, determinant_along}
use Rattle.plane.proofs.Turns.{on_of_combination}
use Rattle.plane.specs.Prelude.{determinant, height_over, IsInTriangle, IsLeft, IsPoint, IsStraight, On, Point, Triple, whole}

-- ---- numbers

-- the opposite, written otherwise, of what is not negative
opposite_of : (q m : ℤ) → m ≡ neg_ℤ q → pos 0 ≤ℤ m → pos 0 ≤ℤ neg_ℤ q
opposite_of q m e h = omega (arith, ints)

-- ---- a point on the line of a side

-- one part of it: x of the point, y and z of the ends, t of the third corner
pub of_side : (p q r d x y z t : ℤ) → r ≡ pos 0 → p *ℤ y -ℤ q *ℤ z +ℤ r *ℤ t -ℤ d *ℤ x ≡ pos 0 → d *ℤ x ≡ p *ℤ y +ℤ neg_ℤ q *ℤ z
of_side p q r d x y z t none e = omega (arith, ints, neg-mul q z, ap (λ n. n *ℤ t) none, zero-mul t)

module _ (a b c x : Triple) where
  -- where it is not beyond the other sides, it is a combination of the ends
  side_combination : IsLeft a b c → pos 0 ≤ℤ determinant b c x → pos 0 ≤ℤ determinant c a x → IsStraight a b x
      → IsCombination x a b
  side_combination left second third straight = record {
    k = determinant a b c;
    l = determinant b c x;
    m = neg_ℤ (determinant a c x);
    k_positive = left;
    l_nonnegative = second;
    m_nonnegative = opposite_of _ _ (determinant_swap_first a c x) third;
    in_X = of_side _ _ _ _ x.X a.X b.X c.X straight (four_triples_in_X a b c x);
    in_Y = of_side _ _ _ _ x.Y a.Y b.Y c.Y straight (four_triples_in_Y a b c x);
    in_W = of_side _ _ _ _ x.W a.W b.W c.W straight (four_triples_in_W a b c x);
  }

-- ---- a side of a line, along a segment

-- what is not right of a line at both ends of a segment is so between them
pub not_right_between : (s t z a b : Triple) → IsPoint z → IsPoint a → IsPoint b
    → pos 0 ≤ℤ determinant s t a → pos 0 ≤ℤ determinant s t b → On z a b → pos 0 ≤ℤ determinant s t z
not_right_between s t z a b at_z at_a at_b ha hb on =
    let c = combination_of z a b at_z at_a at_b on in
    mean_not_negative c.k c.l c.m _ _ _ c.k_positive c.l_nonnegative c.m_nonnegative (determinant_along z a b c s t) ha hb

-- ---- triangles

module _ (u v w : Point) where
  -- a point that no side has on its right, by the three determinants
  pub in_triangle : (x : Triple) → pos 0 ≤ℤ determinant (whole u) (whole v) x → pos 0 ≤ℤ determinant (whole v) (whole w) x
      → pos 0 ≤ℤ height_over u w x → IsInTriangle u v w x
  in_triangle x first second third = record {
    not_right_of_first = not_below first;
    not_right_of_second = not_below second;
    not_right_of_third = not_below third;
  }

  -- the first corner has no height,
  pub height_of_first : height_over u w (whole u) ≡ pos 0
  height_of_first = determinant_same_last (whole w) (whole u)

  -- nor has the last,
  pub height_of_last : height_over u w (whole w) ≡ pos 0
  height_of_last = determinant_same_ends (whole w) (whole u)

  -- and the other has that of the triangle
  pub height_of_middle : height_over u w (whole v) ≡ determinant (whole u) (whole v) (whole w)
  height_of_middle = determinant_shift_back (whole u) (whole v) (whole w)

  module _ (left : IsLeft (whole u) (whole v) (whole w)) where
    -- the turn is left at each corner: at the last,
    pub left_at_last : IsLeft (whole v) (whole w) (whole u)
    left_at_last = rw (determinant_shift (whole u) (whole v) (whole w)) left

    -- at the first
    pub left_at_first : IsLeft (whole w) (whole u) (whole v)
    left_at_first = rw (determinant_shift_back (whole u) (whole v) (whole w)) left

    -- the corners are in the triangle: the first,
    pub first_in_triangle : IsInTriangle u v w (whole u)
    first_in_triangle =
        in_triangle (whole u) (zero_not_negative (determinant_same_ends (whole u) (whole v))) (weak left_at_last)
        (zero_not_negative height_of_first)

    -- the middle,
    pub middle_in_triangle : IsInTriangle u v w (whole v)
    middle_in_triangle =
        in_triangle (whole v) (zero_not_negative (determinant_same_last (whole u) (whole v)))
        (zero_not_negative (determinant_same_ends (whole v) (whole w))) (weak left_at_first)

    -- and the last
    pub last_in_triangle : IsInTriangle u v w (whole w)
    last_in_triangle =
        in_triangle (whole w) (weak left) (zero_not_negative (determinant_same_last (whole v) (whole w)))
        (zero_not_negative height_of_last)

    module _ (x : Triple) (at_x : IsPoint x) (inside : IsInTriangle u v w x) where
      -- a point of the triangle on the line of a side is on the side: the first,
      pub on_first_side : IsStraight (whole u) (whole v) x → On x (whole u) (whole v)
      on_first_side straight =
          on_of_combination x (whole u) (whole v) at_x (whole_is_point u) (whole_is_point v)
          (side_combination (whole u) (whole v) (whole w) x left (at_least_unless inside.not_right_of_second)
          (at_least_unless inside.not_right_of_third) straight)

      -- the second,
      pub on_second_side : IsStraight (whole v) (whole w) x → On x (whole v) (whole w)
      on_second_side straight =
          on_of_combination x (whole v) (whole w) at_x (whole_is_point v) (whole_is_point w)
          (side_combination (whole v) (whole w) (whole u) x left_at_last (at_least_unless inside.not_right_of_third)
          (at_least_unless inside.not_right_of_first) straight)

      -- and the third, where it has no height
      pub on_third_side : height_over u w x ≡ pos 0 → On x (whole w) (whole u)
      on_third_side straight =
          on_of_combination x (whole w) (whole u) at_x (whole_is_point w) (whole_is_point u)
          (side_combination (whole w) (whole u) (whole v) x left_at_first (at_least_unless inside.not_right_of_first)
          (at_least_unless inside.not_right_of_second) straight)

      -- off a side it is strictly left of it: of the first,
      pub left_of_first : ¬ (On x (whole u) (whole v)) → IsLeft (whole u) (whole v) x
      left_of_first off = positive_of_not_zero (at_least_unless inside.not_right_of_first) (λ e. off (on_first_side e))

      -- and of the second
      pub left_of_second : ¬ (On x (whole v) (whole w)) → IsLeft (whole v) (whole w) x
      left_of_second off = positive_of_not_zero (at_least_unless inside.not_right_of_second) (λ e. off (on_second_side e))

  -- a segment between two points of the triangle is in it
  pub between_in_triangle : (x a b : Triple) → IsPoint x → IsPoint a → IsPoint b
      → IsInTriangle u v w a → IsInTriangle u v w b → On x a b → IsInTriangle u v w x
  between_in_triangle x a b at_x at_a at_b ha hb on =
      in_triangle x
      (not_right_between (whole u) (whole v) x a b at_x at_a at_b (at_least_unless ha.not_right_of_first)
      (at_least_unless hb.not_right_of_first) on)
      (not_right_between (whole v) (whole w) x a b at_x at_a at_b (at_least_unless ha.not_right_of_second)
      (at_least_unless hb.not_right_of_second) on)
      (not_right_between (whole w) (whole u) x a b at_x at_a at_b (at_least_unless ha.not_right_of_third)
      (at_least_unless hb.not_right_of_third) on)

  -- a point is in the triangle or not
  pub in_or_not : (x : Triple) → IsInTriangle u v w x ⊎ (¬ IsInTriangle u v w x)
  in_or_not x = elim (lt_or_le (determinant (whole u) (whole v) x) (pos 0)) [
    | inl h ↦ inr (λ i. i.not_right_of_first h)
    | inr first ↦ elim (lt_or_le (determinant (whole v) (whole w) x) (pos 0)) [
      | inl h ↦ inr (λ i. i.not_right_of_second h)
      | inr second ↦ elim (lt_or_le (height_over u w x) (pos 0)) [
        | inl h ↦ inr (λ i. i.not_right_of_third h)
        | inr third ↦ inl (in_triangle x first second third)
      ]
    ]
  ]
