-- Edges of a funnel on the line of its diagonal, off the apex: the way to a point that is not above the diagonal passes those on the left, and
-- none on the right.
-- The signs behind the gates of two points past a diagonal that a falling edge tells apart: on which side of the way between them its ends are.
-- Two points that are not above a diagonal, one not right of an edge that falls to it and one not left of it: the ends of the edge are right of
-- the way from the one to the other.
use Rattle.std.proofs.Common.{◌≡◌, inl, inr, sym, List, length, ℕ, ◌+◌, ◌<◌, ◌≤◌, pos, ◌*ℤ◌, ◌<ℤ◌, ◌≤ℤ◌, arith, ℤ, ◌+ℤ◌, ◌-ℤ◌, ap, neg_ℤ}
use Rattle.std.proofs.lemmas.Int.{ints}
use Rattle.integer_algebra.proofs.Certificate.{product_zero}
use Rattle.integer_algebra.proofs.Laws.{mul_comm, neg-mul, zero-mul}
use Rattle.integer_algebra.proofs.SignSteps.{negative_not_zero, not_both, not_both_positive, positive_not_zero, positive_of_not_zero, weak}
use Rattle.integer_algebra.proofs.SignSteps.{weak_order, at_least_unless, at_most_unless, mean_not_positive, negative_of_not_zero}
use Rattle.integer_algebra.proofs.SignSteps.{opposite_not_negative, opposite_positive, zero_not_positive}
use Rattle.integer_algebra.proofs.Signs.{factor_nonnegative, factor_nonpositive, mul_nonpositive, mul_nonpositives, factor_zero, lt_or_le}
use Rattle.integer_algebra.proofs.Signs.{mul_negative, mul_nonnegative, mul_order, mul_positive, mul_strict}
use Rattle.plane.proofs.Points.{whole_is_point}
use Rattle.plane.proofs.Regions.{four_beside}
use Rattle.plane.proofs.Turns.{determinant_shift, combination_of_ends, determinant_along, determinant_same_ends, determinant_same_last}
use Rattle.plane.proofs.Turns.{determinant_shift_back, four_triples_in_W, four_triples_in_X, four_triples_in_Y, on_of_combination}
use Rattle.plane.specs.Prelude.{determinant, height_over, IsLeft, IsPoint, IsRight, IsStraight, On, Point, Triple, whole}
use Rattle.rings.specs.Chain.{point_at}
use Rattle.funnels.proofs.Funnels.{IsFlat, flat_left, in_proportion, not_negative, passed_from, passed_of, straight_on_line, turn_left}
use Rattle.funnels.proofs.Funnels.{turn_right, flat_right}
use Rattle.funnels.specs.Funnel.{IsFunnel, IsPassed}

module _ (l r p o q : Point) (y : Triple) (differ : ¬ (l ≡ r)) (low : height_over l r y ≤ℤ pos 0) (high : pos 0 ≤ℤ height_over l r (whole p))
    (at_o : height_over l r (whole o) ≡ pos 0) (at_q : height_over l r (whole q) ≡ pos 0) where
  -- where an edge comes down to the line of the diagonal and the next one goes along it,
  -- a point is as far from that as it is from the line, times one factor
  along_line : height_over l r (whole p) *ℤ determinant (whole o) (whole q) y ≡ determinant (whole p) (whole o) (whole q) *ℤ height_over l r y
  along_line =
      rw (mul_comm (height_over l r (whole p)) (determinant (whole o) (whole q) y), ← determinant_shift (whole p) (whole o) (whole q))
      (in_proportion (whole r) (whole l) (whole o) (whole q) (whole p) y at_o at_q)

  -- the edge comes from above
  from_above : ¬ IsStraight (whole p) (whole o) (whole q) → pos 0 <ℤ height_over l r (whole p)
  from_above turn =
      positive_of_not_zero high (λ e. turn (straight_on_line r l (λ s. differ (sym s)) (whole p) (whole o) (whole q) e at_o at_q))

  -- so where it turns left, no point that is not above the line is left of the next edge,
  not_left_along : IsLeft (whole p) (whole o) (whole q) → ¬ IsLeft (whole o) (whole q) y
  not_left_along turn left =
      not_both_positive left
      (factor_nonpositive (height_over l r (whole p)) (determinant (whole o) (whole q) y) (from_above (positive_not_zero turn))
      (rw along_line (mul_nonpositive (determinant (whole p) (whole o) (whole q)) (height_over l r y) (weak turn) low)))

  -- and where it turns right, none is right of it
  not_right_along : IsRight (whole p) (whole o) (whole q) → ¬ IsRight (whole o) (whole q) y
  not_right_along turn right =
      not_both right
      (factor_nonnegative (height_over l r (whole p)) (determinant (whole o) (whole q) y) (from_above (negative_not_zero turn))
      (rw along_line (mul_nonpositives (determinant (whole p) (whole o) (whole q)) (height_over l r y) (weak_order turn) low)))

-- ---- the edges of a funnel

module _ (ns : List Point) (a : ℕ) (l r : Point) (f : IsFunnel ns a l r) (i : ℕ) (y : Triple) (low : height_over l r y ≤ℤ pos 0) where
  -- from a place on the line of the diagonal an edge goes along it; on the left it is passed, where its place is not the apex,
  pub passed_along : i + 1 < a → IsFlat ns l r (i + 1) → IsPassed ns a (i + 1) y
  passed_along h flat =
      let within = f.apex_within in
      passed_of ns a y i (inl (
        omega (arith, h),
        not_left_along l r (point_at ns (i + 1 + 1)) (point_at ns (i + 1)) (point_at ns i) y f.ends_differ low
            (not_negative ns a l r f (i + 1 + 1) (omega arith)) flat (flat_left ns a l r f i (omega arith) flat) (turn_left ns a l r f i h),
      ))

  -- and not on the right
  pub not_passed_along : a ≤ i → i + 1 + 1 < length ns → IsFlat ns l r (i + 1) → ¬ IsPassed ns a (i + 1 + 1) y
  not_passed_along h k flat passed = elim (passed_from ns a y (i + 1) passed) [
    | inl left ↦ omega (arith, left.0, h)
    | inr right ↦
        not_right_along l r (point_at ns i) (point_at ns (i + 1)) (point_at ns (i + 1 + 1)) y f.ends_differ low
        (not_negative ns a l r f i (omega arith)) flat
        (flat_right ns a l r f (i + 1) (omega (arith, h)) k flat)
        (turn_right ns a l r f i h k) right.1
  ]

-- an edge from p to q: A and C are areas at p and q with the two points, D and E those of the points with the edge, P, Q, Y and Z the heights of
-- p, q and the points, v and w the weights of the points
module _ (A C D E P Q Y Z v w : ℤ) (heights : C *ℤ P -ℤ A *ℤ Q +ℤ E *ℤ Y -ℤ D *ℤ Z ≡ pos 0) (weights : C -ℤ A +ℤ E *ℤ v -ℤ D *ℤ w ≡ pos 0)
    (some_v : pos 0 <ℤ v) (some_w : pos 0 <ℤ w) (not_right : pos 0 ≤ℤ D) (not_left : E ≤ℤ pos 0) where
  -- where the edge tells the points apart, the area grows along it,
  pub grows : E <ℤ D → A <ℤ C
  grows apart = elim (lt_or_le (pos 0) D) [
    | inl left ↦
        omega (arith, ints, weights, mul_positive D w left some_w, mul_nonpositive v E (omega (arith, ints)) not_left, mul_comm v E)
    | inr none ↦
        omega (
          arith,
          ints,
          weights,
          mul_nonnegative D w not_right (omega (arith, ints)),
          mul_negative v E some_v (omega (arith, ints)),
          mul_comm v E,
        )
  ]

  module _ (below : Y ≤ℤ pos 0) (also_below : Z ≤ℤ pos 0) where
    -- the products of areas and heights do not
    products : (C *ℤ P) ≤ℤ (A *ℤ Q)
    products = omega (arith, ints, heights, mul_nonpositives E Y not_left below, mul_nonpositive D Z not_right also_below)

    -- so where the edge falls from above the diagonal, the area at its end is not positive
    pub not_left_of_way : E <ℤ D → pos 0 <ℤ P → pos 0 ≤ℤ Q → Q ≤ℤ P → C ≤ℤ pos 0
    not_left_of_way apart above hq falls = elim (lt_or_le (pos 0) C) [
      | inr none ↦ none
      | inl some ↦
          let more = grows apart in
          elim (lt_or_le (pos 0) A) [
            | inl also ↦
                absurd (omega (
                  arith,
                  ints,
                  products,
                  mul_strict A C P above more,
                  mul_order Q P A (omega (arith, ints)) falls,
                  mul_comm P A,
                  mul_comm P C,
                ))
            | inr not ↦
                absurd (omega (arith, ints, products, mul_positive C P some above, mul_nonpositive Q A hq not, mul_comm Q A))
          ]
    ]

    -- where it stays on the line of the diagonal, both products with the other heights are 0:
    no_products : P ≡ pos 0 → Q ≡ pos 0 → (E *ℤ Y ≡ pos 0) × (D *ℤ Z ≡ pos 0)
    no_products hp hq =
        let first = product_zero C hp in
        let second = product_zero A hq in
        let third = mul_nonpositives E Y not_left below in
        let fourth = mul_nonpositive D Z not_right also_below in
        (omega (arith, ints, heights, first, second, third, fourth), omega (arith, ints, heights, first, second, third, fourth))

    -- so the second point is on that line, where the first is left of the edge,
    pub second_level : P ≡ pos 0 → Q ≡ pos 0 → pos 0 <ℤ D → Z ≡ pos 0
    second_level hp hq left = factor_zero D Z (positive_not_zero left) (no_products hp hq).1

    -- and the first is, where the second is right of the edge
    pub first_level : P ≡ pos 0 → Q ≡ pos 0 → E <ℤ pos 0 → Y ≡ pos 0
    first_level hp hq right = factor_zero E Y (negative_not_zero right) (no_products hp hq).0

-- ---- numbers

-- two factors 1 may be left out
drop_ones : (A C d e : ℤ) → C *ℤ pos 1 -ℤ A *ℤ pos 1 +ℤ e -ℤ d ≡ pos 0 → C -ℤ A +ℤ e -ℤ d ≡ pos 0
drop_ones A C d e h = omega (arith, ints)

-- one coordinate of a combination, from the relation of four triples
combined : (A C D E p q x y : ℤ) → C ≡ pos 0 → C *ℤ p -ℤ A *ℤ q +ℤ E *ℤ x -ℤ D *ℤ y ≡ pos 0 → neg_ℤ A *ℤ q ≡ neg_ℤ E *ℤ x +ℤ D *ℤ y
combined A C D E p q x y none e = omega (arith, ints, ap (λ n. n *ℤ p) none, zero-mul p, neg-mul A q, neg-mul E x)

-- what is below something that is not positive is negative,
below_low : {a c : ℤ} → a <ℤ c → c ≤ℤ pos 0 → a <ℤ pos 0
below_low less low = omega (arith, ints)

-- ---- an edge from p to q, and the points x and y

module _ (p q l r : Point) (x y : Triple) (at_x : IsPoint x) (at_y : IsPoint y) (not_right : ¬ IsRight (whole p) (whole q) x)
    (not_left : ¬ IsLeft (whole p) (whole q) y) where
  -- the areas add up
  areas : determinant (whole q) x y -ℤ determinant (whole p) x y
      +ℤ determinant (whole p) (whole q) y *ℤ x.W -ℤ determinant (whole p) (whole q) x *ℤ y.W ≡ pos 0
  areas =
      drop_ones (determinant (whole p) x y) (determinant (whole q) x y) (determinant (whole p) (whole q) x *ℤ y.W)
      (determinant (whole p) (whole q) y *ℤ x.W) (four_triples_in_W (whole p) (whole q) x y)

  -- q is between x and y, where it is in line with them, and p to the right
  on_way : IsRight x y (whole p) → determinant (whole q) x y ≡ pos 0 → On (whole q) x y
  on_way right none =
      let A = determinant (whole p) x y in
      let C = determinant (whole q) x y in
      let D = determinant (whole p) (whole q) x in
      let E = determinant (whole p) (whole q) y in
      on_of_combination (whole q) x y (whole_is_point q) at_x at_y (record {
        k = neg_ℤ A;
        l = neg_ℤ E;
        m = D;
        k_positive = opposite_positive (rw (← determinant_shift (whole p) x y) right);
        l_nonnegative = opposite_not_negative (at_most_unless not_left);
        m_nonnegative = at_least_unless not_right;
        in_X = combined A C D E p.x q.x x.X y.X none (four_triples_in_X (whole p) (whole q) x y);
        in_Y = combined A C D E p.y q.y x.Y y.Y none (four_triples_in_Y (whole p) (whole q) x y);
        in_W = combined A C D E (pos 1) (pos 1) x.W y.W none (four_triples_in_W (whole p) (whole q) x y);
      })

  module _ (low_x : height_over l r x ≤ℤ pos 0) (low_y : height_over l r y ≤ℤ pos 0) where
    -- where the edge falls from above the diagonal, q is not left of the way from x to y,
    pub end_not_left : determinant (whole p) (whole q) y <ℤ determinant (whole p) (whole q) x → pos 0 <ℤ height_over l r (whole p)
        → pos 0 ≤ℤ height_over l r (whole q) → height_over l r (whole q) ≤ℤ height_over l r (whole p) → determinant (whole q) x y ≤ℤ pos 0
    end_not_left =
        not_left_of_way (determinant (whole p) x y) (determinant (whole q) x y) (determinant (whole p) (whole q) x)
        (determinant (whole p) (whole q) y) (height_over l r (whole p)) (height_over l r (whole q)) (height_over l r x) (height_over l r y) x.W y.W
        (four_beside (whole p) (whole q) x y (whole r) (whole l)) areas at_x at_y (at_least_unless not_right) (at_most_unless not_left)
        low_x low_y

    module _ (at_p : height_over l r (whole p) ≡ pos 0) (at_q : height_over l r (whole q) ≡ pos 0) where
      -- where it goes along the line of the diagonal, y is on that, if x is left of the edge,
      pub second_on_line : IsLeft (whole p) (whole q) x → height_over l r y ≡ pos 0
      second_on_line =
          second_level (determinant (whole p) x y) (determinant (whole q) x y) (determinant (whole p) (whole q) x)
          (determinant (whole p) (whole q) y) (height_over l r (whole p)) (height_over l r (whole q)) (height_over l r x) (height_over l r y) x.W y.W
          (four_beside (whole p) (whole q) x y (whole r) (whole l)) areas at_x at_y (at_least_unless not_right) (at_most_unless not_left)
          low_x low_y at_p at_q

      -- and x is, if y is right of it
      pub first_on_line : IsRight (whole p) (whole q) y → height_over l r x ≡ pos 0
      first_on_line =
          first_level (determinant (whole p) x y) (determinant (whole q) x y) (determinant (whole p) (whole q) x)
          (determinant (whole p) (whole q) y) (height_over l r (whole p)) (height_over l r (whole q)) (height_over l r x) (height_over l r y) x.W y.W
          (four_beside (whole p) (whole q) x y (whole r) (whole l)) areas at_x at_y (at_least_unless not_right) (at_most_unless not_left)
          low_x low_y at_p at_q

    -- where q is not left of the way, and not between x and y, both ends of the edge are right of it
    pub ends_right : determinant (whole p) (whole q) y <ℤ determinant (whole p) (whole q) x → determinant (whole q) x y ≤ℤ pos 0
        → ¬ On (whole q) x y → IsRight x y (whole p) × IsRight x y (whole q)
    ends_right apart low not_on =
        let more = grows (determinant (whole p) x y) (determinant (whole q) x y) (determinant (whole p) (whole q) x)
        (determinant (whole p) (whole q) y) (height_over l r (whole p)) (height_over l r (whole q)) (height_over l r x) (height_over l r y) x.W y.W
        (four_beside (whole p) (whole q) x y (whole r) (whole l)) areas at_x at_y (at_least_unless not_right) (at_most_unless not_left)
        apart in
        let right : IsRight x y (whole p) = rw (determinant_shift (whole p) x y) (below_low more low) in
        (right, rw (determinant_shift (whole q) x y) (negative_of_not_zero low (λ none. not_on (on_way right none))))

-- ---- the ends of the diagonal

module _ (l r : Point) (x y : Triple) where
  -- l is not left of a way to a point of the diagonal,
  pub left_end_not_left : IsPoint y → On y (whole l) (whole r) → height_over l r x ≤ℤ pos 0 → determinant (whole l) x y ≤ℤ pos 0
  left_end_not_left at_y on low =
      let c = combination_of_ends y l r at_y on in
      mean_not_positive c.k c.l c.m (determinant (whole l) x y) (determinant (whole l) x (whole l)) (determinant (whole l) x (whole r))
      c.k_positive c.l_nonnegative c.m_nonnegative (determinant_along y (whole l) (whole r) c (whole l) x)
      (zero_not_positive (determinant_same_ends (whole l) x)) (rw (← determinant_shift_back (whole l) x (whole r)) low)

  -- and r is not left of a way from one
  pub right_end_not_left : IsPoint x → On x (whole l) (whole r) → height_over l r y ≤ℤ pos 0 → determinant (whole r) x y ≤ℤ pos 0
  right_end_not_left at_x on low =
      let c = combination_of_ends x l r at_x on in
      rw (← determinant_shift_back (whole r) x y)
      (mean_not_positive c.k c.l c.m (determinant y (whole r) x) (determinant y (whole r) (whole l)) (determinant y (whole r) (whole r))
      c.k_positive c.l_nonnegative c.m_nonnegative (determinant_along x (whole l) (whole r) c y (whole r))
      (rw (← determinant_shift y (whole r) (whole l)) low) (zero_not_positive (determinant_same_last y (whole r))))
