-- A point beyond the far side of a triangle at v is lower than an end of that side, over each line over which it is lower than v.
use Rattle.std.proofs.Common.{◌≡◌, ◌⊎◌, inl, inr, [], ◌∷◌, refl, ℕ, ◌+◌, ◌*◌, ℤ, pos, ◌+ℤ◌, ◌-ℤ◌, ◌*ℤ◌, neg_ℤ, ◌<ℤ◌, ◌≤ℤ◌, arith}
use Rattle.std.proofs.lemmas.Int.{ints}
use Rattle.integer_algebra.proofs.Polynomial.{Polynomial, var, lit, ◌⊕◌, ◌⊖◌, ◌⊗◌, zero_value}
use Rattle.integer_algebra.proofs.SignSteps.{weak}
use Rattle.integer_algebra.proofs.Signs.{factor_positive, lt_or_le, mul_negative, mul_nonpositive, mul_positive}
use Rattle.integer_algebra.proofs.Weights.{offset_from_last}
use Rattle.plane.proofs.Points.{whole_is_point}
use Rattle.plane.proofs.Segments.{within_from}
use Rattle.plane.proofs.Turns.{areas_add, determinant_along, determinant_shift_back, determinant_swap_first}
use Rattle.plane.proofs.Turns.{written_determinant}
use Rattle.plane.specs.Point.{IsSame, Point, whole}
use Rattle.plane.specs.Segment.{On}
use Rattle.plane.specs.Triangle.{height_over}
use Rattle.plane.specs.Turn.{IsLeft, IsRight, determinant}

-- ---- numbers

-- a part of a sum, where the other parts are positive
less_by_two : {first second height other top all : ℤ} → pos 0 <ℤ first → pos 0 <ℤ second → other ≡ neg_ℤ height → top ≡ all
    → second -ℤ other +ℤ first -ℤ all ≡ pos 0 → height <ℤ top
less_by_two h k e f sum = omega (arith, ints)

-- a negative number and two that are not positive
not_zero_sum : {a b c : ℤ} → a <ℤ pos 0 → b ≤ℤ pos 0 → c ≤ℤ pos 0 → ¬ (a +ℤ b +ℤ c ≡ pos 0)
not_zero_sum ha hb hc e = omega (arith, ints)

-- the difference of ordered numbers
rest_positive : {x z : ℤ} → z <ℤ x → pos 0 <ℤ (x -ℤ z)
rest_positive h = omega (arith, ints)

rest_not_positive : {x z : ℤ} → x ≤ℤ z → (x -ℤ z) ≤ℤ pos 0
rest_not_positive h = omega (arith, ints)

-- a mean of v and z, with some of v, is above z where v is
mean_above : (k l m c v z : ℤ) → pos 0 <ℤ k → pos 0 <ℤ l → k *ℤ c ≡ l *ℤ v +ℤ m *ℤ z → k *ℤ pos 1 ≡ l *ℤ pos 1 +ℤ m *ℤ pos 1 → z <ℤ v → z <ℤ c
mean_above k l m c v z hk hl in_height in_W above =
    drop_one (factor_positive k (c -ℤ z *ℤ pos 1) hk
    (as_positive (offset_from_last k l m c (pos 1) v z in_height in_W) (mul_positive l (v -ℤ z) hl (rest_positive above))))
  where
    as_positive : {a b : ℤ} → a ≡ b → pos 0 <ℤ b → pos 0 <ℤ a
    as_positive e h = omega (arith, ints)

    drop_one : {a b : ℤ} → pos 0 <ℤ (a -ℤ b *ℤ pos 1) → b <ℤ a
    drop_one h = omega (arith, ints)

-- ---- heights over the line through u and w

module _ (u v w z : Point) where
  -- a point strictly between the rays from v to w and to u is lower than v
  pub lower_than_first : IsLeft (whole u) (whole v) (whole z) → IsLeft (whole v) (whole w) (whole z)
      → height_over u w (whole z) <ℤ height_over u w (whole v)
  lower_than_first first second =
      less_by_two first second (determinant_swap_first (whole w) (whole u) (whole z)) (determinant_shift_back (whole u) (whole v) (whole w)) (areas_add u v w z)

  -- a point before it on its ray from v is higher
  module _ (c : Point) (below : height_over u w (whole z) <ℤ height_over u w (whole v)) (on : On (whole c) (whole v) (whole z))
      (not_first : ¬ (IsSame (whole c) (whole v))) (not_last : ¬ (IsSame (whole c) (whole z))) where
    pub higher_on_ray : height_over u w (whole z) <ℤ height_over u w (whole c)
    higher_on_ray =
        let is = within_from (whole c) (whole v) (whole z) (whole_is_point c) (whole_is_point v) (whole_is_point z) on not_first not_last in
        let mean = is.combination in
        mean_above mean.k mean.l mean.m _ _ _ mean.k_positive is.first_weighs
        (determinant_along (whole c) (whole v) (whole z) mean (whole w) (whole u)) mean.in_W below

-- ---- beyond a side

-- the determinant of three points by their numbers, of which point i has the variables 2i and 2i + 1
planar : ℕ → ℕ → ℕ → Polynomial
planar a b c =
    let one = lit (pos 1) in
    written_determinant (var (2 * a)) (var (2 * a + 1)) one (var (2 * b)) (var (2 * b + 1)) one (var (2 * c)) (var (2 * c + 1)) one

module _ (u v w p c z : Point) where
  -- the heights of v, p and c over that of z, by the weights of z in their triangle
  weighed_heights :
      (height_over u w (whole v) -ℤ height_over u w (whole z)) *ℤ determinant (whole p) (whole c) (whole z)
      +ℤ determinant (whole v) (whole z) (whole c) *ℤ (height_over u w (whole p) -ℤ height_over u w (whole z))
      +ℤ determinant (whole v) (whole p) (whole z) *ℤ (height_over u w (whole c) -ℤ height_over u w (whole z))
      ≡ pos 0
  unfolding planar
  weighed_heights =
      zero_value
      ((planar 2 0 1 ⊖ planar 2 0 5) ⊗ planar 3 4 5 ⊕ planar 1 5 4 ⊗ (planar 2 0 3 ⊖ planar 2 0 5) ⊕ planar 1 3 5 ⊗ (planar 2 0 4 ⊖ planar 2 0 5))
      (u.x ∷ u.y ∷ v.x ∷ v.y ∷ w.x ∷ w.y ∷ p.x ∷ p.y ∷ c.x ∷ c.y ∷ z.x ∷ z.y ∷ []) refl

  -- where z is between the rays to p and c, but beyond the side, one of those is higher
  pub end_is_higher : IsLeft (whole v) (whole p) (whole z) → IsLeft (whole v) (whole z) (whole c) → IsRight (whole p) (whole c) (whole z)
      → height_over u w (whole z) <ℤ height_over u w (whole v)
      → (height_over u w (whole z) <ℤ height_over u w (whole p)) ⊎ (height_over u w (whole z) <ℤ height_over u w (whole c))
  end_is_higher after_p before_c beyond below =
      elim (lt_or_le (height_over u w (whole z)) (height_over u w (whole p))) [
        | inl high ↦ inl high
        | inr low_p ↦ elim (lt_or_le (height_over u w (whole z)) (height_over u w (whole c))) [
          | inl high ↦ inr high
          | inr low_c ↦ absurd (not_zero_sum (mul_negative _ _ (rest_positive below) beyond)
              (mul_nonpositive _ _ (weak before_c) (rest_not_positive low_p)) (mul_nonpositive _ _ (weak after_p) (rest_not_positive low_c)) weighed_heights)
        ]
      ]
