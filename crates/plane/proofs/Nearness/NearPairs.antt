-- Near a rational point: on the way from it to another point, what is apart from it is left behind.
-- Near a point, in two directions at once: what is apart from it is left behind, and turns keep their sides.
use Rattle.std.proofs.Common.{◌≡◌, inl, inr, ℕ, ◌+◌, ◌<◌, ◌≤◌, ℤ, pos, ◌+ℤ◌, ◌*ℤ◌, ◌<ℤ◌, ◌≤ℤ◌, [], ◌∷◌, refl, arith, ap}
use Rattle.std.proofs.lemmas.Int.{ints}
use Rattle.std.specs.Prelude.{unsigned_abs}
use Rattle.integer_algebra.proofs.Laws.{add-mul, mul-add, mul_assoc, mul_left_comm, mul-zero}
use Rattle.integer_algebra.proofs.Polynomial.{var, ◌⊕◌, ◌⊗◌, same_value}
use Rattle.integer_algebra.proofs.SignSteps.{mean_positive, natural_not_negative, not_both_positive, one_positive}
use Rattle.integer_algebra.proofs.Signs.{mul_nonnegative, mul_order}
use Rattle.plane.proofs.Segments.{not_positive_between, on_or_separated}
use Rattle.plane.proofs.Turns.{linear, IsCombination, combination_of, determinant_is_linear, linear_along, on_of_combination}
use Rattle.plane.proofs.Turns.{weights_positive, parts, determinant as det, written_determinant}
use Rattle.plane.specs.Prelude.{determinant, IsLeft, IsPoint, IsRight, IsSame, IsStraight, Meet, On, Triple}

-- the mediant of n times x, and c: the greater n, the nearer to x
abbrev pub toward : Triple → Triple → ℕ → Triple
toward x c n = record { X = pos n *ℤ x.X +ℤ c.X; Y = pos n *ℤ x.Y +ℤ c.Y; W = pos n *ℤ x.W +ℤ c.W }

-- ---- numbers

-- the weights add up to a positive one
weight_positive : (n : ℕ) (v w : ℤ) → pos 0 <ℤ v → pos 0 <ℤ w → pos 0 <ℤ (pos n *ℤ v +ℤ w)
weight_positive n v w hv hw = omega (arith, ints, mul_nonnegative (pos n) v (omega (arith, ints)) (omega (arith, ints)))

-- a mediant is a sum of multiples,
pub one_part : (n x c : ℤ) → pos 1 *ℤ (n *ℤ x +ℤ c) ≡ n *ℤ x +ℤ pos 1 *ℤ c
one_part n x c = omega (arith, ints)

-- ---- points toward x

-- they are combinations of x and c
unfoldable pub combination_toward : (x c : Triple) (n : ℕ) → IsCombination (toward x c n) x c
combination_toward x c n = record {
  k = pos 1;
  l = pos n;
  m = pos 1;
  k_positive = one_positive;
  l_nonnegative = natural_not_negative n;
  m_nonnegative = natural_not_negative 1;
  in_X = one_part (pos n) x.X c.X;
  in_Y = one_part (pos n) x.Y c.Y;
  in_W = one_part (pos n) x.W c.W;
}

module _ (x c : Triple) (at_x : IsPoint x) (at_c : IsPoint c) where
  -- rational,
  pub toward_is_point : (n : ℕ) → IsPoint (toward x c n)
  toward_is_point n = weight_positive n x.W c.W at_x at_c

  -- on the segment from x to c,
  pub toward_on : (n : ℕ) → On (toward x c n) x c
  toward_on n = on_of_combination (toward x c n) x c (toward_is_point n) at_x at_c (combination_toward x c n)

-- one coordinate: x and w of the point, c and d of the other
drop_parts : (n x w c d : ℤ) → (n *ℤ x +ℤ c) *ℤ w ≡ x *ℤ (n *ℤ w +ℤ d) → c *ℤ w ≡ x *ℤ d
drop_parts n x w c d e =
    let left = add-mul (n *ℤ x) c w in
    let right = mul-add x (n *ℤ w) d in
    omega (arith, ints, e, left, right, mul_assoc n x w, mul_left_comm x n w)

-- and other than x, where c is
pub toward_differs : (x c : Triple) (n : ℕ) → ¬ (IsSame c x) → ¬ (IsSame (toward x c n) x)
toward_differs x c n differ s = differ (record {
  same_x = drop_parts (pos n) x.X x.W c.X c.W s.same_x;
  same_y = drop_parts (pos n) x.Y x.W c.Y c.W s.same_y;
})

-- ---- what holds near x

-- P holds of all but the first numbers
pub record Eventually (P : ℕ → Type 0) : Type 0 where
  pub start : ℕ
  pub from_start : (n : ℕ) → start ≤ n → P n

-- what a functional is at a mediant
linear_toward : (x c : Triple) (n : ℕ) (α β γ : ℤ) → linear α β γ (toward x c n) ≡ pos n *ℤ linear α β γ x +ℤ linear α β γ c
linear_toward x c n α β γ =
    same_value
    (var 0 ⊗ (var 3 ⊗ var 4 ⊕ var 7) ⊕ var 1 ⊗ (var 3 ⊗ var 5 ⊕ var 8) ⊕ var 2 ⊗ (var 3 ⊗ var 6 ⊕ var 9))
    (var 3 ⊗ (var 0 ⊗ var 4 ⊕ var 1 ⊗ var 5 ⊕ var 2 ⊗ var 6) ⊕ (var 0 ⊗ var 7 ⊕ var 1 ⊗ var 8 ⊕ var 2 ⊗ var 9))
    (α ∷ β ∷ γ ∷ pos n ∷ x.X ∷ x.Y ∷ x.W ∷ c.X ∷ c.Y ∷ c.W ∷ []) refl

-- enough times a positive number outweigh any other
pub outweighs : (n : ℕ) (f g : ℤ) → pos 0 <ℤ f → unsigned_abs g < n → pos 0 <ℤ (pos n *ℤ f +ℤ g)
outweighs n f g hf h = omega (arith, ints, mul_order (pos 1) f (pos n) (omega (arith, ints)) (omega (arith, ints)))

module _ (x c : Triple) where
  -- what is positive at x is so near x
  pub positive_eventually : (α β γ : ℤ) → pos 0 <ℤ linear α β γ x → Eventually (λ n. pos 0 <ℤ linear α β γ (toward x c n))
  positive_eventually α β γ h = record {
    start = unsigned_abs (linear α β γ c) + 1;
    from_start = λ n above. rw (linear_toward x c n α β γ) (outweighs n (linear α β γ x) (linear α β γ c) h (omega arith));
  }

  -- so what is left of a line stays so
  pub left_eventually : (a b : Triple) → IsLeft a b x → Eventually (λ n. IsLeft a b (toward x c n))
  left_eventually a b h = simp determinant_is_linear (positive_eventually _ _ _ (rw (← determinant_is_linear a b x) h))

-- ---- segments left behind

-- where a functional is positive at both ends of a segment, and not positive at those of another, they do not meet
pub no_meet_across : (x y a b : Triple) → IsPoint x → IsPoint y → IsPoint a → IsPoint b → (α β γ : ℤ)
    → pos 0 <ℤ linear α β γ x → pos 0 <ℤ linear α β γ y → linear α β γ a ≤ℤ pos 0 → linear α β γ b ≤ℤ pos 0 → ¬ (Meet x y a b)
no_meet_across x y a b at_x at_y at_a at_b α β γ hx hy ha hb m =
    let z = m.point in
    let c = combination_of z x y m.rational at_x at_y m.on_first in
    let mean = mean_positive c.k c.l c.m _ _ _ c.k_positive c.l_nonnegative c.m_nonnegative (linear_along z x y c α β γ) in
    not_both_positive (mean (weights_positive z x y c m.rational) hx hy)
    (not_positive_between z a b m.rational at_a at_b α β γ ha hb m.on_second)

module _ (x c : Triple) (at_x : IsPoint x) (at_c : IsPoint c) where
  -- a segment that x is not on does not meet the way from x to a near point
  pub apart_eventually : (a b : Triple) → IsPoint a → IsPoint b → ¬ (On x a b)
      → Eventually (λ n. ¬ (Meet x (toward x c n) a b))
  apart_eventually a b at_a at_b off = elim (on_or_separated x a b at_x at_a at_b) [
    | inl on ↦ absurd (off on)
    | inr s ↦
        let near = positive_eventually x c s.α s.β s.γ s.at_point in
        record {
          start = near.start;
          from_start = λ n above.
              no_meet_across x (toward x c n) a b at_x (toward_is_point x c at_x at_c n) at_a at_b s.α s.β s.γ s.at_point
              (near.from_start n above) s.at_first s.at_last;
        }
  ]

-- ---- near a point, in two directions

module _ (m p q : Triple) (at_m : IsPoint m) (at_p : IsPoint p) (at_q : IsPoint q) where
  -- a segment that m is not on does not meet the segment between near points
  pub apart_between : (a b : Triple) → IsPoint a → IsPoint b → ¬ (On m a b)
      → Eventually (λ n. ¬ (Meet (toward m p n) (toward m q n) a b))
  apart_between a b at_a at_b off = elim (on_or_separated m a b at_m at_a at_b) [
    | inl on ↦ absurd (off on)
    | inr s ↦
        let near = positive_eventually m p s.α s.β s.γ s.at_point in
        let other = positive_eventually m q s.α s.β s.γ s.at_point in
        record {
          start = near.start + other.start;
          from_start = λ n above.
              no_meet_across (toward m p n) (toward m q n) a b (toward_is_point m p at_m at_p n) (toward_is_point m q at_m at_q n)
              at_a at_b s.α s.β s.γ (near.from_start n (omega arith)) (other.from_start n (omega arith)) s.at_first s.at_last;
        }
  ]

-- ---- turns near a point

-- the side on which a near point is
pub side_toward : (a b m c : Triple) (n : ℕ)
    → determinant a b (toward m c n) ≡ pos n *ℤ determinant a b m +ℤ determinant a b c
side_toward a b m c n =
    same_value
    (written_determinant (var 0) (var 1) (var 2) (var 3) (var 4) (var 5)
    (var 12 ⊗ var 6 ⊕ var 9) (var 12 ⊗ var 7 ⊕ var 10) (var 12 ⊗ var 8 ⊕ var 11))
    (var 12 ⊗ det 0 1 2 ⊕ det 0 1 3) (parts (a ∷ b ∷ m ∷ c ∷ []) (pos n ∷ [])) refl

-- where one number is 0, a multiple of it and another is the other
only_other : (n f g z : ℤ) → z ≡ n *ℤ f +ℤ g → f ≡ pos 0 → z ≡ g
only_other n f g z e ef = omega (arith, ints, ap (λ x. n *ℤ x) ef, mul-zero n)

-- signs through an equation
pub negative_at : {x y : ℤ} → x ≡ y → y <ℤ pos 0 → x <ℤ pos 0
negative_at e h = omega (arith, ints)

-- positive too
pub positive_at : {x y : ℤ} → x ≡ y → pos 0 <ℤ y → pos 0 <ℤ x
positive_at e h = omega (arith, ints)

module _ (a b m c : Triple) (straight : IsStraight a b m) where
  -- from a point on a line toward one left of it, a near point is left of it,
  pub left_toward : IsLeft a b c → (n : ℕ) → IsLeft a b (toward m c n)
  left_toward left n = positive_at (only_other (pos n) _ _ _ (side_toward a b m c n) straight) left

  -- and toward one right of it, right
  pub right_toward : IsRight a b c → (n : ℕ) → IsRight a b (toward m c n)
  right_toward right n = negative_at (only_other (pos n) _ _ _ (side_toward a b m c n) straight) right

-- the side of the line through two near points
pub turn_toward : (m p q f : Triple) (n : ℕ)
    → determinant (toward m p n) (toward m q n) f ≡ pos n *ℤ (determinant m q f +ℤ determinant p m f) +ℤ determinant p q f
turn_toward m p q f n =
    same_value
    (written_determinant (var 12 ⊗ var 0 ⊕ var 3) (var 12 ⊗ var 1 ⊕ var 4) (var 12 ⊗ var 2 ⊕ var 5)
    (var 12 ⊗ var 0 ⊕ var 6) (var 12 ⊗ var 1 ⊕ var 7) (var 12 ⊗ var 2 ⊕ var 8) (var 9) (var 10) (var 11))
    (var 12 ⊗ (det 0 2 3 ⊕ det 1 0 3) ⊕ det 1 2 3) (parts (m ∷ p ∷ q ∷ f ∷ []) (pos n ∷ [])) refl
