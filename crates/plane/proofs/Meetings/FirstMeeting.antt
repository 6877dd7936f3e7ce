-- The first point of a segment on the way from one rational point to another, from which the segment is in one direction.
use Rattle.std.proofs.Common.{◌≡◌, ◌⊎◌, inl, inr, ℤ, pos, ◌+ℤ◌, ◌-ℤ◌, ◌*ℤ◌, neg_ℤ, ◌<ℤ◌, ◌≤ℤ◌, arith}
use Rattle.std.proofs.lemmas.Int.{ints}
use Rattle.integer_algebra.proofs.Laws.{mul_comm, neg-mul}
use Rattle.integer_algebra.proofs.SignSteps.{mean_zero, one_positive, opposite_not_negative, weak, zero_not_positive}
use Rattle.integer_algebra.proofs.Signs.{lt_or_le, mul_nonpositive, mul_positive}
use Rattle.plane.proofs.Nearness.{no_meet_across}
use Rattle.plane.proofs.Segments.{on_last_end, on_reversed, on_same_point, on_antisym, on_total, first_end_by, on_or_separated, separated_not_on}
use Rattle.plane.proofs.Turns.{linear, IsCombination, combination_of, linear_along, on_of_combination}
use Rattle.plane.specs.Prelude.{IsPoint, Meet, On, Triple}

-- a point of the segment from a to b on the way from y to t, and before all others of the segment
pub record First (y t a b : Triple) : Type 0 where
  pub point : Triple
  pub rational : IsPoint point
  pub on_way : On point y t
  pub on_segment : On point a b
  pub before : (z : Triple) → IsPoint z → On z y t → On z a b → On point y z

-- the ends of the segment may change places
pub first_swapped : (y t a b : Triple) → First y t b a → First y t a b
first_swapped y t a b f = record {
  point = f.point;
  rational = f.rational;
  on_way = f.on_way;
  on_segment = on_reversed f.point b a f.on_segment;
  before = λ z at_z way on. f.before z at_z way (on_reversed z a b on);
}

-- ---- where a functional falls to 0

-- a difference of multiples as a sum
pub weighed_sum : (f g x y : ℤ) → pos 1 *ℤ (f *ℤ y -ℤ g *ℤ x) ≡ neg_ℤ g *ℤ x +ℤ f *ℤ y
weighed_sum f g x y = omega (arith, ints, neg-mul g x)

-- a positive multiple less one that is not is positive
pub weights_apart : (f g v w : ℤ) → pos 0 <ℤ f → g ≤ℤ pos 0 → pos 0 <ℤ v → pos 0 <ℤ w → pos 0 <ℤ (f *ℤ w -ℤ g *ℤ v)
weights_apart f g v w hf hg hv hw = omega (arith, ints, mul_positive f w hf hw, mul_nonpositive v g (weak hv) hg, mul_comm v g)

-- between whole points, whose weights are 1, it is enough that the one is above the other
pub values_apart : (f g : ℤ) → g <ℤ f → pos 0 <ℤ (f *ℤ pos 1 -ℤ g *ℤ pos 1)
values_apart f g h = omega (arith, ints)

-- the functional is 0 where its values at the ends are their own weights
pub no_value : (z f g : ℤ) → pos 1 *ℤ z ≡ neg_ℤ g *ℤ f +ℤ f *ℤ g → z ≡ pos 0
no_value z f g e = omega (arith, ints, neg-mul g f, mul_comm g f)

-- the point between y and t at which a functional with the values f and g there is 0
abbrev pub zero_point : (f g : ℤ) → Triple → Triple → Triple
zero_point f g y t = record { X = f *ℤ t.X -ℤ g *ℤ y.X; Y = f *ℤ t.Y -ℤ g *ℤ y.Y; W = f *ℤ t.W -ℤ g *ℤ y.W }

-- it is a combination of the two
unfoldable pub zero_combination : (f g : ℤ) (y t : Triple) → pos 0 ≤ℤ f → g ≤ℤ pos 0 → IsCombination (zero_point f g y t) y t
zero_combination f g y t hf hg = record {
  k = pos 1;
  l = neg_ℤ g;
  m = f;
  k_positive = one_positive;
  l_nonnegative = opposite_not_negative hg;
  m_nonnegative = hf;
  in_X = weighed_sum f g y.X t.X;
  in_Y = weighed_sum f g y.Y t.Y;
  in_W = weighed_sum f g y.W t.W;
}

-- a point at which a functional is 0 on the way from y to t
record Zero (α β γ : ℤ) (y t : Triple) : Type 0 where
  point : Triple
  rational : IsPoint point
  on_way : On point y t
  value : linear α β γ point ≡ pos 0

module _ (α β γ : ℤ) (y t : Triple) (at_y : IsPoint y) (at_t : IsPoint t) (up : pos 0 <ℤ linear α β γ y) where
  -- there is one where it is positive at y and not at t
  zero_of : linear α β γ t ≤ℤ pos 0 → Zero α β γ y t
  unfolding zero_combination
  zero_of low =
      let f = linear α β γ y in
      let g = linear α β γ t in
      let w = zero_point f g y t in
      let c = zero_combination f g y t (weak up) low in
      let at_w : IsPoint w = weights_apart f g y.W t.W up low at_y at_t in
      record {
        point = w;
        rational = at_w;
        on_way = on_of_combination w y t at_w at_y at_t c;
        value = no_value _ f g (linear_along w y t c α β γ);
      }

  -- a point at which it is not positive is not before one at which it is 0
  not_before : (w z : Triple) → IsPoint w → IsPoint z → On w y t → On z y t → linear α β γ w ≡ pos 0 → linear α β γ z ≤ℤ pos 0
      → On w y z
  not_before w z at_w at_z on_w on_z zero low = elim (on_total w z y t at_w at_z at_y at_t on_w on_z) [
    | inl on ↦ on
    | inr on ↦
        let same = first_end_by z w y (combination_of z w y at_z at_w at_y (on_reversed z y w on)) α β γ zero up low in
        on_same_point at_z same (on_last_end y z)
  ]

  -- the functional is 0 at the ends of the segment
  module _ (a b : Triple) (at_a : IsPoint a) (at_b : IsPoint b)
      (ea : linear α β γ a ≡ pos 0) (eb : linear α β γ b ≡ pos 0) where
    -- so it is on the segment
    zero_on : (z : Triple) → IsPoint z → On z a b → linear α β γ z ≡ pos 0
    zero_on z at_z on =
        let c = combination_of z a b at_z at_a at_b on in
        mean_zero c.k c.l c.m _ _ _ c.k_positive c.l_nonnegative c.m_nonnegative (linear_along z a b c α β γ) ea eb

    -- what is on the way and on the segment is where the functional is 0 on the way
    only_zero : (w : Zero α β γ y t) → Meet y t a b → On w.point a b
    only_zero w m =
        let z = m.point in
        let at_z = m.rational in
        let zero = zero_on z at_z m.on_second in
        let there = not_before w.point z w.rational at_z w.on_way m.on_first w.value (zero_not_positive zero) in
        let back = not_before z w.point at_z w.rational m.on_first w.on_way zero (zero_not_positive w.value) in
        on_same_point at_z (on_antisym z w.point y at_z w.rational at_y back there) m.on_second

    -- where it is 0 on the way is the first point of the segment, or the way does not meet it
    first_at : (w : Zero α β γ y t) → First y t a b ⊎ (¬ Meet y t a b)
    first_at w = elim (on_or_separated w.point a b w.rational at_a at_b) [
      | inr s ↦ inr (λ m. separated_not_on w.point a b w.rational at_a at_b s (only_zero w m))
      | inl on ↦ inl (record {
        point = w.point;
        rational = w.rational;
        on_way = w.on_way;
        on_segment = on;
        before = λ z at_z way on_z.
            not_before w.point z w.rational at_z w.on_way way w.value (zero_not_positive (zero_on z at_z on_z));
      })
    ]

    -- so the way has a first point on the segment, or does not meet it
    pub first_in_direction : First y t a b ⊎ (¬ Meet y t a b)
    first_in_direction = elim (lt_or_le (pos 0) (linear α β γ t)) [
      | inl high ↦ inr (no_meet_across y t a b at_y at_t at_a at_b α β γ up high (zero_not_positive ea) (zero_not_positive eb))
      | inr low ↦ first_at (zero_of low)
    ]
