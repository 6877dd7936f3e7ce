-- The line of an edge at a point off a diagonal does not go through both ends of the diagonal.
-- The way from a point to one beyond a diagonal, between the lines of two edges at the point, crosses the diagonal between them.
-- How far four points are from a line, points on one line, and a point on the line of a diagonal: on which sides of the ways from it to the
-- ends the points beyond the diagonal are.
use Rattle.std.proofs.Common.{◌≡◌, ◌⊎◌, inl, inr, sym, ap, subst, ℤ, pos, ◌+ℤ◌, ◌-ℤ◌, ◌*ℤ◌, arith, ◌<ℤ◌, ◌≤ℤ◌}
use Rattle.std.proofs.lemmas.Int.{ints}
use Rattle.integer_algebra.proofs.Certificate.{product_zero}
use Rattle.integer_algebra.proofs.Laws.{eq_of_sub-zero, mul-sub, zero-mul, mul_comm}
use Rattle.integer_algebra.proofs.SignSteps.{negative_not_zero, turned_negative, not_both, positive_not_zero, turned_positive}
use Rattle.integer_algebra.proofs.SignSteps.{zero_not_negative, not_both_positive, at_least_unless, at_most_unless, weak, weak_order}
use Rattle.integer_algebra.proofs.SignSteps.{zero_not_positive}
use Rattle.integer_algebra.proofs.Signs.{factor_zero, lt_or_le, mul_negative, mul_negatives, mul_nonpositive, mul_nonpositives}
use Rattle.integer_algebra.proofs.Signs.{mul_nonnegative, mul_positive}
use Rattle.plane.proofs.Order.{same_coordinates}
use Rattle.plane.proofs.Points.{whole_is_point}
use Rattle.plane.proofs.Regions.{four_beside}
use Rattle.plane.proofs.Segments.{on_reversed}
use Rattle.plane.proofs.Turns.{areas_add, determinant_same_ends, determinant_same_last, determinant_swap_ends, four_triples_in_X}
use Rattle.plane.proofs.Turns.{four_triples_in_Y, straight_swap_first, determinant_shift, determinant_swap_last, four_triples_in_W}
use Rattle.plane.proofs.Turns.{determinant_swap_first, straight_shift_back, straight_swap_last}
use Rattle.plane.specs.Prelude.{determinant, height_over, IsLeft, IsPoint, IsRight, IsStraight, On, Point, Triple, whole}
use Rattle.ring_laws.proofs.Triangles.{left_of, left_of_is_left, on_first_side, in_triangle}
use Rattle.funnels.proofs.Funnels.LineCrossed.{determinant_on_line, on_line_between, weight_on_line, not_left_along, not_right_along}
use Rattle.funnels.specs.Funnel.{Reaches}

-- an end n of an edge from u to w
abbrev pub IsEnd : Point → Point → Point → Type 0
IsEnd n u w = (n ≡ u) ⊎ (n ≡ w)

-- the end is on the line of the edge
pub end_is_straight : (n u w : Point) → IsEnd n u w → IsStraight (whole u) (whole w) (whole n)
end_is_straight n u w (inl e) = subst (λ p. IsStraight (whole u) (whole w) (whole p)) (sym e) (determinant_same_ends (whole u) (whole w))
end_is_straight n u w (inr e) = subst (λ p. IsStraight (whole u) (whole w) (whole p)) (sym e) (determinant_same_last (whole u) (whole w))

-- areas of which two are 0
two_left : (d e f g : ℤ) → f ≡ pos 0 → g ≡ pos 0 → d -ℤ e +ℤ f -ℤ g ≡ pos 0 → d ≡ e
two_left d e f g ef eg h = omega (arith, ints)

-- one coordinate
same_coordinate : (d e f g x y u v : ℤ) → d ≡ e → ¬ (e ≡ pos 0) → f ≡ pos 0 → g ≡ pos 0
    → d *ℤ x -ℤ e *ℤ y +ℤ f *ℤ u -ℤ g *ℤ v ≡ pos 0 → x ≡ y
same_coordinate d e f g x y u v same some ef eg h =
    let first = ap (λ z. z *ℤ u) ef in
    let second = ap (λ z. z *ℤ v) eg in
    let third = ap (λ z. z *ℤ x) same in
    eq_of_sub-zero x y (factor_zero e (x -ℤ y) some (omega (arith, ints, mul-sub e x y, first, second, third, zero-mul u, zero-mul v)))

-- where a line from n over w goes through l and r, and n is not on their line, w is n
no_way : (n w l r : Point) → IsLeft (whole r) (whole l) (whole n) → IsStraight (whole n) (whole w) (whole l)
    → IsStraight (whole n) (whole w) (whole r) → n ≡ w
no_way n w l r left on_l on_r =
    let N = whole n in
    let V = whole w in
    let L = whole l in
    let R = whole r in
    let same : determinant V L R ≡ determinant N L R = two_left _ _ _ _ on_r on_l (areas_add n w l r) in
    let some = negative_not_zero (turned_negative (determinant_swap_ends R L N) left) in
    same_coordinates n w
    (same_coordinate _ _ _ _ n.x w.x l.x r.x same some on_r on_l (four_triples_in_X N V L R))
    (same_coordinate _ _ _ _ n.y w.y l.y r.y same some on_r on_l (four_triples_in_Y N V L R))

-- so an edge whose line goes through both has equal ends
pub equal_ends : (n u w l r : Point) → IsEnd n u w → IsLeft (whole r) (whole l) (whole n) → IsStraight (whole u) (whole w) (whole l)
    → IsStraight (whole u) (whole w) (whole r) → u ≡ w
equal_ends n u w l r (inl e) left on_l on_r = no_way u w l r (subst (λ p. IsLeft (whole r) (whole l) (whole p)) e left) on_l on_r
equal_ends n u w l r (inr e) left on_l on_r =
    sym (no_way w u l r (subst (λ p. IsLeft (whole r) (whole l) (whole p)) e left)
    (straight_swap_first (whole u) (whole w) (whole l) on_l) (straight_swap_first (whole u) (whole w) (whole r) on_r))

-- factors 1 may be left out
drop_ones : (A B C D : ℤ) → A *ℤ pos 1 -ℤ B *ℤ pos 1 +ℤ C *ℤ pos 1 -ℤ D ≡ pos 0 → A -ℤ B +ℤ C -ℤ D ≡ pos 0
drop_ones A B C D e = omega (arith, ints)

-- the areas between three whole points and one more add up
pub areas_with : (p q s : Point) (z : Triple) →
    determinant (whole q) (whole s) z -ℤ determinant (whole p) (whole s) z
    +ℤ determinant (whole p) (whole q) z -ℤ determinant (whole p) (whole q) (whole s) *ℤ z.W ≡ pos 0
areas_with p q s z =
    drop_ones (determinant (whole q) (whole s) z) (determinant (whole p) (whole s) z) (determinant (whole p) (whole q) z)
    (determinant (whole p) (whole q) (whole s) *ℤ z.W) (four_triples_in_W (whole p) (whole q) (whole s) z)

-- ---- points on one line

-- where three products are 0, the factor beside a positive number is
last_zero : (A B C D p q s z : ℤ) → pos 0 <ℤ z → p ≡ pos 0 → q ≡ pos 0 → s ≡ pos 0
    → A *ℤ p -ℤ B *ℤ q +ℤ C *ℤ s -ℤ D *ℤ z ≡ pos 0 → D ≡ pos 0
last_zero A B C D p q s z h ep eq es e =
    factor_zero z D (positive_not_zero h) (omega (arith, ints, mul_comm z D, product_zero A ep, product_zero B eq, product_zero C es))

-- three points on the line through two points are on one line
pub straight_on_line : (a b : Point) → ¬ (a ≡ b) → (p q s : Triple) → IsStraight (whole a) (whole b) p → IsStraight (whole a) (whole b) q
    → IsStraight (whole a) (whole b) s → IsStraight p q s
straight_on_line a b differ p q s on_p on_q on_s =
    let z = whole (left_of a b) in
    let far = determinant (whole a) (whole b) in
    last_zero (determinant q s z) (determinant p s z) (determinant p q z) (determinant p q s) (far p) (far q) (far s) (far z)
    (left_of_is_left a b differ) on_p on_q on_s (four_beside p q s z (whole a) (whole b))

-- two products agree where the other two are 0
last_equal : (A B C D p q s z : ℤ) → p ≡ pos 0 → q ≡ pos 0 → A *ℤ p -ℤ B *ℤ q +ℤ C *ℤ s -ℤ D *ℤ z ≡ pos 0 → C *ℤ s ≡ D *ℤ z
last_equal A B C D p q s z ep eq e = omega (arith, ints, product_zero A ep, product_zero B eq)

-- where p and q are on the line from a to b, others are as far from it as from the line from p to q, times one factor
pub in_proportion : (a b p q s z : Triple) → IsStraight a b p → IsStraight a b q
    → determinant p q z *ℤ determinant a b s ≡ determinant p q s *ℤ determinant a b z
in_proportion a b p q s z on_p on_q =
    let far = determinant a b in
    last_equal (determinant q s z) (determinant p s z) (determinant p q z) (determinant p q s) (far p) (far q) (far s) (far z)
    on_p on_q (four_beside p q s z a b)

-- ---- a point between the ends of a segment

-- where p is on the line, and from o beside it l is not to the right of p, nor r to the left, p is between l and r
pub on_by_sides : (p l r o : Point) → IsStraight (whole r) (whole l) (whole p) → IsLeft (whole r) (whole l) (whole o)
    → ¬ IsRight (whole o) (whole p) (whole l) → ¬ IsLeft (whole o) (whole p) (whole r) → On (whole p) (whole l) (whole r)
on_by_sides p l r o straight above not_right not_left =
    on_reversed (whole p) (whole r) (whole l)
    (on_first_side r l o above (whole p) (whole_is_point p) (record {
      not_right_of_first = λ h. not_both h (zero_not_negative straight);
      not_right_of_second = λ h. not_right (rw (determinant_shift (whole l) (whole o) (whole p)) h);
      not_right_of_third = λ h. not_left (turned_positive (determinant_swap_last (whole o) (whole r) (whole p)) h);
    }) straight)

-- ---- A point on the line of a diagonal: on which sides of the ways from it to the ends the points beyond the diagonal are

-- where negative factors make two numbers equal, the one is positive where the other is,
also_positive : (h k D E : ℤ) → h <ℤ pos 0 → k <ℤ pos 0 → h *ℤ D ≡ k *ℤ E → pos 0 <ℤ D → pos 0 <ℤ E
also_positive h k D E nh nk e some = elim (lt_or_le (pos 0) E) [
  | inl more ↦ more
  | inr less ↦ absurd (omega (arith, ints, mul_negative D h some nh, mul_comm D h, mul_nonpositives k E (omega (arith, ints)) less))
]

-- and negative where it is
also_negative : (h k D E : ℤ) → h <ℤ pos 0 → k <ℤ pos 0 → h *ℤ D ≡ k *ℤ E → D <ℤ pos 0 → E <ℤ pos 0
also_negative h k D E nh nk e some = elim (lt_or_le E (pos 0)) [
  | inl less ↦ less
  | inr more ↦ absurd (omega (arith, ints, mul_negatives h D nh some, mul_comm k E, mul_nonpositive E k more (omega (arith, ints))))
]

module _ (l r n : Point) (flat : height_over l r (whole n) ≡ pos 0) where
  -- the ends of the diagonal are on one line with it
  on_line : IsStraight (whole n) (whole l) (whole r)
  on_line = straight_swap_last (whole n) (whole r) (whole l) (straight_shift_back (whole r) (whole l) (whole n) flat)

  module _ (z y : Triple) (beyond_z : height_over l r z <ℤ pos 0) (beyond_y : height_over l r y <ℤ pos 0) where
    -- where a point beyond is to the left of the way to l, all are,
    left_of_all : IsLeft (whole n) (whole l) z → IsLeft (whole n) (whole l) y
    left_of_all =
        also_positive (height_over l r y) (height_over l r z) (determinant (whole n) (whole l) z) (determinant (whole n) (whole l) y)
        beyond_y beyond_z (in_proportion (whole n) (whole l) (whole r) (whole l) z y on_line (determinant_same_last (whole n) (whole l)))

    -- and where one is to the right of the way to r, all are
    right_of_all : IsRight (whole n) (whole r) z → IsRight (whole n) (whole r) y
    right_of_all =
        also_negative (height_over l r y) (height_over l r z) (determinant (whole n) (whole r) z) (determinant (whole n) (whole r) y)
        beyond_y beyond_z (in_proportion (whole n) (whole r) (whole r) (whole l) z y (determinant_same_last (whole n) (whole r))
        (straight_swap_last (whole n) (whole l) (whole r) on_line))

  -- the point is on the diagonal, or what is beyond is to the left of the way to l, or to the right of the way to r
  pub on_or_beside : ¬ (l ≡ r) → On (whole n) (whole l) (whole r)
      ⊎ ((y : Triple) → height_over l r y <ℤ pos 0 → IsLeft (whole n) (whole l) y ⊎ IsRight (whole n) (whole r) y)
  on_or_beside differ =
      let t = left_of l r in
      let z = whole t in
      let above = left_of_is_left l r differ in
      let beyond = turned_negative (determinant_swap_first (whole l) (whole r) z) above in
      elim (lt_or_le (pos 0) (determinant (whole n) (whole l) z)) [
        | inl left ↦ inr (λ y h. inl (left_of_all z y beyond h left))
        | inr not_left ↦ elim (lt_or_le (determinant (whole n) (whole r) z) (pos 0)) [
          | inl right ↦ inr (λ y h. inr (right_of_all z y beyond h right))
          | inr not_right ↦
              inl (on_reversed (whole n) (whole r) (whole l)
              (on_by_sides n r l t (straight_swap_first (whole r) (whole l) (whole n) flat) above
              (λ h. not_both h (rw (← determinant_shift z (whole n) (whole r)) not_right))
              (λ h. not_both_positive h (rw (← determinant_shift z (whole n) (whole l)) not_left))))
        ]
      ]

-- ---- numbers

-- weights that add up to a positive multiple of a positive number
some_weight : (d w p m : ℤ) → pos 0 <ℤ d → pos 0 <ℤ w → d *ℤ w ≡ p *ℤ pos 1 +ℤ m *ℤ pos 1 → pos 0 <ℤ (p +ℤ m)
some_weight d w p m hd hw e = omega (arith, ints, mul_positive d w hd hw)

-- a negative multiple of what is not negative
falling : (m g : ℤ) → m <ℤ pos 0 → pos 0 ≤ℤ g → (m *ℤ g) ≤ℤ pos 0
falling m g hm hg = omega (arith, ints, mul_nonpositive g m hg (omega (arith, ints)), mul_comm g m)

-- of two numbers on the two sides of 0, not both 0, with a weighted sum z: the second weight is not negative where z is not, and the first
-- not where z is not positive
weights_by_sum : (k p m z f g : ℤ) → pos 0 <ℤ k → pos 0 <ℤ (p +ℤ m) → k *ℤ z ≡ p *ℤ f +ℤ m *ℤ g → f ≤ℤ pos 0 → pos 0 ≤ℤ g
    → ¬ ((f ≡ pos 0) × (g ≡ pos 0)) → (pos 0 ≤ℤ z → pos 0 ≤ℤ m) × (z ≤ℤ pos 0 → pos 0 ≤ℤ p)
weights_by_sum k p m z f g hk some e hf hg apart = (
  λ hz. elim (lt_or_le m (pos 0)) [
    | inr h ↦ h
    | inl hm ↦
        let hp : pos 0 <ℤ p = omega (arith, ints) in
        let sum = mul_nonnegative k z (weak hk) hz in
        let first = mul_nonpositive p f (weak hp) hf in
        let second = falling m g hm hg in
        absurd (apart (
          factor_zero p f (positive_not_zero hp) (omega (arith, ints)),
          factor_zero m g (negative_not_zero hm) (omega (arith, ints)),
        ))
  ],
  λ hz. elim (lt_or_le p (pos 0)) [
    | inr h ↦ h
    | inl hp ↦
        let hm : pos 0 <ℤ m = omega (arith, ints) in
        let sum = mul_nonpositive k z (weak hk) hz in
        let first = mul_nonpositives p f (weak_order hp) hf in
        let second = mul_nonnegative m g (weak hm) hg in
        absurd (apart (
          factor_zero p f (negative_not_zero hp) (omega (arith, ints)),
          factor_zero m g (positive_not_zero hm) (omega (arith, ints)),
        ))
  ],
)

-- ---- a point of the diagonal's line

module _ (n l r : Point) (up : IsLeft (whole r) (whole l) (whole n))
    (x : Triple) (at_x : IsPoint x) (line : IsStraight (whole r) (whole l) x) where
  -- the weights of r and l add up to a positive number
  weights : pos 0 <ℤ (determinant (whole l) (whole n) x +ℤ determinant (whole n) (whole r) x)
  weights =
      let R = whole r in
      let L = whole l in
      let N = whole n in
      some_weight (determinant R L N) x.W (determinant L N x) (determinant N R x) up at_x (weight_on_line R L N x line)

  -- by an edge at n that reaches the diagonal: what is not right of it is not beyond r, and what is not left of it is not beyond l
  within_edge : (u w : Point) → IsEnd n u w → ¬ (u ≡ w) → Reaches u w l r
      → (¬ IsRight (whole u) (whole w) x → pos 0 ≤ℤ determinant (whole n) (whole r) x)
      × (¬ IsLeft (whole u) (whole w) x → pos 0 ≤ℤ determinant (whole l) (whole n) x)
  within_edge u w end differ reach =
      let R = whole r in
      let L = whole l in
      let N = whole n in
      let f = λ (v : Triple). determinant (whole u) (whole w) v in
      let by = weights_by_sum (determinant R L N) (determinant L N x) (determinant N R x) (f x) (f R) (f L) up weights
      (determinant_on_line R L N x line (whole u) (whole w)) (at_most_unless reach.not_left) (at_least_unless reach.not_right)
      (λ h. differ (equal_ends n u w l r end up h.1 h.0)) in
      (λ side. by.0 (at_least_unless side), λ side. by.1 (at_most_unless side))

  -- not beyond r and l, it is on the diagonal
  on_diagonal : pos 0 ≤ℤ determinant (whole l) (whole n) x → pos 0 ≤ℤ determinant (whole n) (whole r) x → On x (whole l) (whole r)
  on_diagonal left right =
      on_reversed x (whole r) (whole l) (on_first_side r l n up x at_x (in_triangle r l n x (zero_not_negative line) left right) line)

-- ---- the crossing

-- from n on the side walked from to y beyond, not left of an edge at n and not right of another, the way crosses the diagonal between them
pub crossing_in_window : (n l r : Point) (y : Triple) → IsPoint y → pos 0 <ℤ determinant (whole r) (whole l) (whole n)
    → determinant (whole r) (whole l) y <ℤ pos 0 → (u w p q : Point) → IsEnd n u w → IsEnd n p q → ¬ (u ≡ w) → ¬ (p ≡ q)
    → Reaches u w l r → Reaches p q l r → ¬ IsLeft (whole u) (whole w) y → ¬ IsRight (whole p) (whole q) y
    → (x : Triple) × IsPoint x × On x (whole l) (whole r) × On x (whole n) y
    × (¬ IsLeft (whole u) (whole w) x) × (¬ IsRight (whole p) (whole q) x)
crossing_in_window n l r y at_y up beyond u w p q end_left end_right differ_left differ_right reach_left reach_right not_left not_right =
    let at_n = whole_is_point n in
    let z = on_line_between (whole r) (whole l) (whole n) y at_n at_y up beyond in
    let x = z.point in
    let n_left : ¬ IsLeft (whole u) (whole w) (whole n) = λ h. not_both_positive h (zero_not_positive (end_is_straight n u w end_left)) in
    let n_right : ¬ IsRight (whole p) (whole q) (whole n) = λ h. not_both h (zero_not_negative (end_is_straight n p q end_right)) in
    let x_left = not_left_along (whole u) (whole w) x (whole n) y z.rational at_n at_y z.on_way n_left not_left in
    let x_right = not_right_along (whole p) (whole q) x (whole n) y z.rational at_n at_y z.on_way n_right not_right in
    let on =
    on_diagonal n l r up x z.rational z.on_line
    ((within_edge n l r up x z.rational z.on_line u w end_left differ_left reach_left).1 x_left)
    ((within_edge n l r up x z.rational z.on_line p q end_right differ_right reach_right).0 x_right) in
    (x, z.rational, on, z.on_way, x_left, x_right)
