-- Small steps on signs, so that no tactic need read the large terms whose signs they are, and the signs of means.
use Rattle.std.proofs.Common.{◌≡◌, ap, ℕ, ℤ, pos, ◌+ℤ◌, ◌*ℤ◌, neg_ℤ, ◌<ℤ◌, ◌≤ℤ◌, arith, ◌-ℤ◌}
use Rattle.std.proofs.lemmas.Int.{ints}
use Rattle.integer_algebra.proofs.Laws.{mul-neg, mul-zero}
use Rattle.integer_algebra.proofs.Signs.{cancel_equal, factor_negative, factor_nonnegative, factor_nonpositive, factor_positive, mul_nonnegative}
use Rattle.integer_algebra.proofs.Signs.{mul_nonpositive, mul_positive}
use Rattle.integer_algebra.proofs.Weights.{weighted_positive}

-- ---- one number

-- a positive number is 0 or more
pub weak : {z : ℤ} → pos 0 <ℤ z → pos 0 ≤ℤ z
weak h = omega (arith, ints)

-- 0 is neither positive
pub zero_not_positive : {z : ℤ} → z ≡ pos 0 → z ≤ℤ pos 0
zero_not_positive e = omega (arith, ints)

-- nor negative
pub zero_not_negative : {z : ℤ} → z ≡ pos 0 → pos 0 ≤ℤ z
zero_not_negative e = omega (arith, ints)

-- a positive number is not negative,
pub positive_not_negative : {z : ℤ} → pos 0 <ℤ z → ¬ (z <ℤ pos 0)
positive_not_negative h k = omega (arith, ints)

-- nor 0,
pub positive_not_zero : {z : ℤ} → pos 0 <ℤ z → ¬ (z ≡ pos 0)
positive_not_zero h e = omega (arith, ints)

-- and a negative one is not 0
pub negative_not_zero : {z : ℤ} → z <ℤ pos 0 → ¬ (z ≡ pos 0)
negative_not_zero h e = omega (arith, ints)

-- no number is negative and not,
pub not_both : {z : ℤ} → z <ℤ pos 0 → pos 0 ≤ℤ z → ⊥
not_both h k = omega (arith, ints)

-- nor positive and not
pub not_both_positive : {z : ℤ} → pos 0 <ℤ z → z ≤ℤ pos 0 → ⊥
not_both_positive h k = omega (arith, ints)

-- a number that is neither negative nor 0 is positive
pub positive_of_not_zero : {z : ℤ} → pos 0 ≤ℤ z → ¬ (z ≡ pos 0) → pos 0 <ℤ z
positive_of_not_zero h n = omega (arith, ints)

-- and negative where it is neither positive nor 0
pub negative_of_not_zero : {z : ℤ} → z ≤ℤ pos 0 → ¬ (z ≡ pos 0) → z <ℤ pos 0
negative_of_not_zero h n = omega (arith, ints)

-- it is 0 where it is neither positive nor negative
pub zero_of_neither : {z : ℤ} → z ≤ℤ pos 0 → pos 0 ≤ℤ z → z ≡ pos 0
zero_of_neither h k = omega (arith, ints)

-- one that is not positive is 0 or less
pub at_most_unless : {z : ℤ} → ¬ (pos 0 <ℤ z) → z ≤ℤ pos 0
at_most_unless h = grind (arith, ints)

-- and one that is not negative is 0 or more
pub at_least_unless : {z : ℤ} → ¬ (z <ℤ pos 0) → pos 0 ≤ℤ z
at_least_unless h = grind (arith, ints)

-- 1 is positive
pub one_positive : pos 0 <ℤ pos 1
one_positive = omega (arith, ints)

-- a natural number is not negative
pub natural_not_negative : (n : ℕ) → pos 0 ≤ℤ pos n
natural_not_negative n = omega (arith, ints)

-- ---- two numbers

-- a strict order is an order
pub weak_order : {x z : ℤ} → x <ℤ z → x ≤ℤ z
weak_order h = omega (arith, ints)

-- a number that is as great as another is not below it
pub not_below : {y z : ℤ} → z ≤ℤ y → ¬ (y <ℤ z)
not_below h k = omega (arith, ints)

-- ---- opposites

-- the opposite of a negative number is positive
pub opposite_positive : {z : ℤ} → z <ℤ pos 0 → pos 0 <ℤ neg_ℤ z
opposite_positive h = omega (arith, ints)

-- of one that is not positive, it is not negative
pub opposite_not_negative : {z : ℤ} → z ≤ℤ pos 0 → pos 0 ≤ℤ neg_ℤ z
opposite_not_negative h = omega (arith, ints)

-- of one that is not negative, it is not positive
pub opposite_not_positive : {z : ℤ} → pos 0 ≤ℤ z → neg_ℤ z ≤ℤ pos 0
opposite_not_positive h = omega (arith, ints)

-- the opposite of a negative number, where it is written otherwise
pub turned_positive : {d e : ℤ} → e ≡ neg_ℤ d → d <ℤ pos 0 → pos 0 <ℤ e
turned_positive e h = omega (arith, ints)

-- the opposite of a positive one
pub turned_negative : {d e : ℤ} → e ≡ neg_ℤ d → pos 0 <ℤ d → e <ℤ pos 0
turned_negative e h = omega (arith, ints)

-- of one that is not negative
pub turned_not_positive : {d e : ℤ} → e ≡ neg_ℤ d → pos 0 ≤ℤ d → e ≤ℤ pos 0
turned_not_positive e h = omega (arith, ints)

-- of one that is not positive
pub turned_not_negative : {d e : ℤ} → e ≡ neg_ℤ d → d ≤ℤ pos 0 → pos 0 ≤ℤ e
turned_not_negative e h = omega (arith, ints)

-- and of 0
pub turned_zero : {d e : ℤ} → e ≡ neg_ℤ d → d ≡ pos 0 → e ≡ pos 0
turned_zero e h = omega (arith, ints)

-- a number that is its own opposite is 0,
pub own_opposite : {z : ℤ} → z ≡ neg_ℤ z → z ≡ pos 0
own_opposite e = omega (arith, ints)

-- and so is one that is not negative, and whose opposite is not
pub zero_of_both : {d e : ℤ} → e ≡ neg_ℤ d → pos 0 ≤ℤ d → pos 0 ≤ℤ e → d ≡ pos 0
zero_of_both e h k = omega (arith, ints)

-- where the opposite is 0, the number is 0,
pub zero_of_opposite : {z : ℤ} → neg_ℤ z ≡ pos 0 → z ≡ pos 0
zero_of_opposite e = omega (arith, ints)

-- where it is positive, the number is negative,
pub negative_of_opposite : {z : ℤ} → pos 0 <ℤ neg_ℤ z → z <ℤ pos 0
negative_of_opposite h = omega (arith, ints)

-- where it is negative, the number is positive,
pub positive_of_opposite : {z : ℤ} → neg_ℤ z <ℤ pos 0 → pos 0 <ℤ z
positive_of_opposite h = omega (arith, ints)

-- and where it is not positive, the number is not negative
pub not_negative_of_opposite : {z : ℤ} → neg_ℤ z ≤ℤ pos 0 → ¬ (z <ℤ pos 0)
not_negative_of_opposite h k = omega (arith, ints)

-- ---- a mean z of two numbers f and g, with the weights l and m

-- it is positive where the first is not negative, and the second is positive and weighs
pub mean_last_positive : (k l m z f g : ℤ) → pos 0 <ℤ k → pos 0 ≤ℤ l → pos 0 <ℤ m → k *ℤ z ≡ l *ℤ f +ℤ m *ℤ g → pos 0 ≤ℤ f → pos 0 <ℤ g
    → pos 0 <ℤ z
mean_last_positive k l m z f g hk hl hm e hf hg =
    factor_positive k z hk (omega (arith, ints, e, mul_nonnegative l f hl hf, mul_positive m g hm hg))

module _ (k l m z f g : ℤ) (hk : pos 0 <ℤ k) (hl : pos 0 ≤ℤ l) (hm : pos 0 ≤ℤ m) (e : k *ℤ z ≡ l *ℤ f +ℤ m *ℤ g) where
  -- it is not positive where neither of them is,
  pub mean_not_positive : f ≤ℤ pos 0 → g ≤ℤ pos 0 → z ≤ℤ pos 0
  mean_not_positive hf hg =
      factor_nonpositive k z hk (omega (arith, ints, e, mul_nonpositive l f hl hf, mul_nonpositive m g hm hg))

  -- not negative where neither of them is,
  pub mean_not_negative : pos 0 ≤ℤ f → pos 0 ≤ℤ g → pos 0 ≤ℤ z
  mean_not_negative hf hg =
      factor_nonnegative k z hk (omega (arith, ints, e, mul_nonnegative l f hl hf, mul_nonnegative m g hm hg))

  -- 0 where both are,
  pub mean_zero : f ≡ pos 0 → g ≡ pos 0 → z ≡ pos 0
  mean_zero ef eg =
      let no_first = ap (λ n. l *ℤ n) ef in
      let no_second = ap (λ n. m *ℤ n) eg in
      cancel_equal z (pos 0) k hk (omega (arith, ints, e, no_first, no_second, mul-zero l, mul-zero m, mul-zero k))

  module _ (some : pos 0 <ℤ (l +ℤ m)) where
    -- positive where both are, and a weight is not 0,
    pub mean_positive : pos 0 <ℤ f → pos 0 <ℤ g → pos 0 <ℤ z
    mean_positive hf hg = factor_positive k z hk (omega (arith, ints, e, weighted_positive l m hl hm some f g hf hg))

    -- and negative where both are
    pub mean_negative : f <ℤ pos 0 → g <ℤ pos 0 → z <ℤ pos 0
    mean_negative hf hg =
        let rest = weighted_positive l m hl hm some (neg_ℤ f) (neg_ℤ g) (opposite_positive hf) (opposite_positive hg) in
        factor_negative k z hk (omega (arith, ints, e, rest, mul-neg l f, mul-neg m g))

-- ---- sums and differences

-- a sum of opposites is the opposite of the sum
pub opposite_sum : (a b c d : ℤ) → c ≡ neg_ℤ a → d ≡ neg_ℤ b → c +ℤ d ≡ neg_ℤ (a +ℤ b)
opposite_sum a b c d h k = omega (arith, ints)

-- a part that is 0 and is taken away may be left out
pub without_less : {x y d : ℤ} → x ≡ y -ℤ d → d ≡ pos 0 → x ≡ y
without_less e h = omega (arith, ints)

-- a greater number less a smaller one is positive
pub difference_positive : {x y : ℤ} → x <ℤ y → pos 0 <ℤ (y -ℤ x)
difference_positive h = omega (arith, ints)
