-- The signs of products, and orders through a positive factor.
use Rattle.std.proofs.Common.{◌≡◌, ◌≢◌, ◌⊎◌, zero, suc, ℤ, pos, negsuc, ◌+ℤ◌, ◌-ℤ◌, ◌*ℤ◌, neg_ℤ, ◌<ℤ◌, ◌≤ℤ◌, arith, refl}
use Rattle.std.proofs.lemmas.Int.{ints}
use Rattle.integer_algebra.proofs.Laws.{mul_comm, mul-sub}

-- the three signs of an integer
pub data Sign (a : ℤ) : Type 0 where
  is_negative : a <ℤ pos 0 → Sign a
  is_zero : a ≡ pos 0 → Sign a
  is_positive : pos 0 <ℤ a → Sign a

-- each integer has one
pub sign : (a : ℤ) → Sign a
sign (pos zero) = is_zero refl
sign (pos (suc n)) = is_positive (omega (arith, ints))
sign (negsuc n) = is_negative (omega (arith, ints))

-- how two integers compare
pub data Comparison (a b : ℤ) : Type 0 where
  is_below : a <ℤ b → Comparison a b
  is_equal : a ≡ b → Comparison a b
  is_above : b <ℤ a → Comparison a b

-- any two do
pub comparison : (a b : ℤ) → Comparison a b
comparison a b = elim (sign (a -ℤ b)) [ is_negative h ↦ is_below (omega (arith, ints)) | is_zero h ↦ is_equal (omega (arith, ints)) | is_positive h ↦ is_above (omega (arith, ints)) ]

-- the first is below the second, or the second is at most the first
pub lt_or_le : (a b : ℤ) → (a <ℤ b) ⊎ (b ≤ℤ a)
lt_or_le a b = grind (arith, ints)

-- what is not below is at most
pub le_unless : (a b : ℤ) → ¬ (b <ℤ a) → a ≤ℤ b
le_unless a b h = grind (arith, ints)

-- ---- the sign of a product, from the signs of its factors

-- two positive factors
pub mul_positive : (a b : ℤ) → pos 0 <ℤ a → pos 0 <ℤ b → pos 0 <ℤ (a *ℤ b)
mul_positive (pos (suc a)) (pos (suc b)) h k = omega (arith, ints)
mul_positive (pos zero) b h k = absurd (omega (arith, ints))
mul_positive a (pos zero) h k = absurd (omega (arith, ints))
mul_positive (negsuc a) b h k = absurd (omega (arith, ints))
mul_positive a (negsuc b) h k = absurd (omega (arith, ints))

-- a positive factor and a negative one
pub mul_negative : (a b : ℤ) → pos 0 <ℤ a → b <ℤ pos 0 → (a *ℤ b) <ℤ pos 0
mul_negative a b h k = grind (arith, ints)

-- two negative factors
pub mul_negatives : (a b : ℤ) → a <ℤ pos 0 → b <ℤ pos 0 → pos 0 <ℤ (a *ℤ b)
mul_negatives a b h k = grind (arith, ints)

-- two factors that are not negative
pub mul_nonnegative : (a b : ℤ) → pos 0 ≤ℤ a → pos 0 ≤ℤ b → pos 0 ≤ℤ (a *ℤ b)
mul_nonnegative a b h k = grind (arith, ints)

-- a factor that is not negative, and one that is not positive
pub mul_nonpositive : (a b : ℤ) → pos 0 ≤ℤ a → b ≤ℤ pos 0 → (a *ℤ b) ≤ℤ pos 0
mul_nonpositive a b h k = grind (arith, ints)

-- two factors that are not positive
pub mul_nonpositives : (a b : ℤ) → a ≤ℤ pos 0 → b ≤ℤ pos 0 → pos 0 ≤ℤ (a *ℤ b)
mul_nonpositives a b h k = grind (arith, ints)

-- a square is not negative
pub square_nonnegative : (a : ℤ) → pos 0 ≤ℤ (a *ℤ a)
square_nonnegative a = grind (arith, ints)

-- and it is positive but at 0
pub square_positive : (a : ℤ) → a ≢ pos 0 → pos 0 <ℤ (a *ℤ a)
square_positive a h = grind (arith, ints, mul_positive a a, mul_negatives a a)

-- the sum of two squares is positive, where one of the numbers is not 0
pub squares_positive : (a b : ℤ) → ¬ ((a ≡ pos 0) × (b ≡ pos 0)) → pos 0 <ℤ (a *ℤ a +ℤ b *ℤ b)
squares_positive a b some = elim (sign a) [
  | is_negative h ↦ omega (arith, ints, square_nonnegative b, square_positive a (λ e. omega (arith, ints)))
  | is_zero h ↦ omega (arith, ints, square_nonnegative a, square_positive b (λ e. some (h, e)))
  | is_positive h ↦ omega (arith, ints, square_nonnegative b, square_positive a (λ e. omega (arith, ints)))
]

-- ---- the other factor beside a positive one, from the sign of the product

-- it is positive where the product is
pub factor_positive : (a b : ℤ) → pos 0 <ℤ a → pos 0 <ℤ (a *ℤ b) → pos 0 <ℤ b
factor_positive a b h k = grind (arith, ints)

-- it is not negative where the product is not
pub factor_nonnegative : (a b : ℤ) → pos 0 <ℤ a → pos 0 ≤ℤ (a *ℤ b) → pos 0 ≤ℤ b
factor_nonnegative a b h k = grind (arith, ints)

-- it is negative where the product is
pub factor_negative : (a b : ℤ) → pos 0 <ℤ a → (a *ℤ b) <ℤ pos 0 → b <ℤ pos 0
factor_negative a b h k = grind (arith, ints)

-- it is not positive where the product is not
pub factor_nonpositive : (a b : ℤ) → pos 0 <ℤ a → (a *ℤ b) ≤ℤ pos 0 → b ≤ℤ pos 0
factor_nonpositive a b h k = grind (arith, ints, mul_positive a b)

-- and 0 where the product is, also beside a negative factor
pub factor_zero : (a b : ℤ) → a ≢ pos 0 → a *ℤ b ≡ pos 0 → b ≡ pos 0
factor_zero a b h k = grind (arith, ints, mul_positive a b, mul_positive (neg_ℤ a) b, mul_negative a b, mul_negatives a b)

-- where a product is 0, a factor is
pub mul_zero_cases : (a b : ℤ) → a *ℤ b ≡ pos 0 → (a ≡ pos 0) ⊎ (b ≡ pos 0)
mul_zero_cases a b h = grind (arith, ints, mul_positive a b, mul_negative a b, mul_negative b a, mul_comm a b, mul_negatives a b)

-- where it is negative, they have two
pub mul_negative_cases : (a b : ℤ) → (a *ℤ b) <ℤ pos 0 → ((pos 0 <ℤ a) × (b <ℤ pos 0)) ⊎ ((a <ℤ pos 0) × (pos 0 <ℤ b))
mul_negative_cases a b h = grind (arith, ints, mul_comm a b)

-- ---- orders times a factor, and without it

-- a factor that is not negative keeps an order
pub mul_order : (a b c : ℤ) → pos 0 ≤ℤ c → a ≤ℤ b → (c *ℤ a) ≤ℤ (c *ℤ b)
mul_order a b c h k = omega (arith, ints, mul-sub c b a, mul_nonnegative c (b -ℤ a) h (omega (arith, ints)))

-- a positive one keeps a strict order
pub mul_strict : (a b c : ℤ) → pos 0 <ℤ c → a <ℤ b → (c *ℤ a) <ℤ (c *ℤ b)
mul_strict a b c h k = omega (arith, ints, mul-sub c b a, mul_positive c (b -ℤ a) h (omega (arith, ints)))

-- a positive factor may be left out of an equation
pub cancel_equal : (a b c : ℤ) → pos 0 <ℤ c → c *ℤ a ≡ c *ℤ b → a ≡ b
cancel_equal a b c h k = grind (arith, ints, mul_strict a b c h, mul_strict b a c h)

-- of an order
pub cancel_order : (a b c : ℤ) → pos 0 <ℤ c → (c *ℤ a) ≤ℤ (c *ℤ b) → a ≤ℤ b
cancel_order a b c h k = grind (arith, ints, mul_strict b a c h)
