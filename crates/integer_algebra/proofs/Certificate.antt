-- The sign of a polynomial, from an identity with a sum of products of known signs.
use Rattle.std.proofs.Common.{◌≡◌, List, [], ℤ, pos, ◌+ℤ◌, ◌*ℤ◌, ◌<ℤ◌, ◌≤ℤ◌, arith, ap, ◌∙◌}
use Rattle.std.proofs.lemmas.Int.{ints}
use Rattle.integer_algebra.proofs.Laws.{mul-zero}
use Rattle.integer_algebra.proofs.Polynomial.{Polynomial, ◌⊖◌, ◌⊗◌, value, normal, same_value}
use Rattle.integer_algebra.proofs.Signs.{factor_nonnegative, factor_positive, factor_zero, mul_nonnegative, mul_positive}

infixl 6 ◌⊞◌ ◌⊞⁺◌
infixl 7 ◌⊠◌ ◌⊠⁺◌
-- a sum of integers that are not negative
pub ◌⊞◌ : {a b : ℤ} → pos 0 ≤ℤ a → pos 0 ≤ℤ b → pos 0 ≤ℤ (a +ℤ b)
h ⊞ k = omega (arith, ints)

-- a product of integers that are not negative
pub ◌⊠◌ : {a b : ℤ} → pos 0 ≤ℤ a → pos 0 ≤ℤ b → pos 0 ≤ℤ (a *ℤ b)
h ⊠ k = mul_nonnegative _ _ h k

-- a positive integer and one that is not negative
pub ◌⊞⁺◌ : {a b : ℤ} → pos 0 <ℤ a → pos 0 ≤ℤ b → pos 0 <ℤ (a +ℤ b)
h ⊞⁺ k = omega (arith, ints)

-- a product of positive integers
pub ◌⊠⁺◌ : {a b : ℤ} → pos 0 <ℤ a → pos 0 <ℤ b → pos 0 <ℤ (a *ℤ b)
h ⊠⁺ k = mul_positive _ _ h k

-- a sum of two zeros
pub sum_zero : {a b : ℤ} → a ≡ pos 0 → b ≡ pos 0 → a +ℤ b ≡ pos 0
sum_zero h k = omega (arith, ints)

-- a product whose second factor is zero
pub product_zero : (a : ℤ) {b : ℤ} → b ≡ pos 0 → a *ℤ b ≡ pos 0
product_zero a h = ap (λ z. a *ℤ z) h ∙ mul-zero a

-- k s and t are one polynomial, and k is positive
module _ (k s t : Polynomial) (xs : List ℤ) (same : normal (k ⊗ s ⊖ t) ≡ []) (positive : pos 0 <ℤ value k xs) where
  -- s is not negative, where t is not
  pub nonnegative_by : pos 0 ≤ℤ value t xs → pos 0 ≤ℤ value s xs
  nonnegative_by h = factor_nonnegative (value k xs) (value s xs) positive (rw (same_value (k ⊗ s) t xs same) h)

  -- s is positive, where t is
  pub positive_by : pos 0 <ℤ value t xs → pos 0 <ℤ value s xs
  positive_by h = factor_positive (value k xs) (value s xs) positive (rw (same_value (k ⊗ s) t xs same) h)

  -- s is 0, where t is
  pub zero_by : value t xs ≡ pos 0 → value s xs ≡ pos 0
  zero_by h = factor_zero (value k xs) (value s xs) (λ e. omega (arith, ints)) (same_value (k ⊗ s) t xs same ∙ h)
