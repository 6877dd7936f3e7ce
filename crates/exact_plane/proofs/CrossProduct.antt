-- The cross product of two small vectors fits 64 bits, and so does all on the way to it.
use Rattle.std.proofs.Common.{◌≡◌, ◌∙◌, ◌<◌, ◌^◌, ℤ, ◌*ℤ◌, ◌-ℤ◌, arith, w64}
use Rattle.std.proofs.lemmas.Int.{ints, to_z-of_z, unsigned_abs-mul}
use Rattle.std.proofs.lemmas.Nat.{mul-lt}
use Rattle.std.specs.Prelude.{FitsSigned, unsigned_abs}
use Rattle.plane.proofs.Turns.{determinant_of_whole}
use Rattle.exact_plane.proofs.Registers.{read}

-- a small number is one of 32 bits
pub fits_half : (z : ℤ) → unsigned_abs z < 2 ^ 24 → unsigned_abs z < 2 ^ 32
fits_half z small = omega arith

-- the size of the product of two small numbers
small_product : (m n : ℤ) → unsigned_abs m < 2 ^ 24 → unsigned_abs n < 2 ^ 24 → unsigned_abs (m *ℤ n) < 2 ^ 48
small_product m n small_m small_n = rw unsigned_abs-mul (mul-lt _ _ (2 ^ 24) (2 ^ 24) small_m small_n)

module _ (a b : ℤ) (small : unsigned_abs a < 2 ^ 24) (half : unsigned_abs b < 2 ^ 32) where
  -- the size of the product of a small number and one of 32 bits
  product_size : unsigned_abs (a *ℤ b) < 2 ^ 56
  product_size = rw unsigned_abs-mul (mul-lt _ _ (2 ^ 24) (2 ^ 32) small half)

  -- so it fits
  pub product_fits : FitsSigned w64 (read a *ℤ read b)
  product_fits =
      let fits_a : FitsSigned w64 a = omega (arith, ints) in
      let fits_b : FitsSigned w64 b = omega (arith, ints) in
      simp to_z-of_z (omega (arith, ints, product_size))

  -- and is computed as it is
  product_read : read (read a *ℤ read b) ≡ a *ℤ b
  product_read =
      let fits_a : FitsSigned w64 a = omega (arith, ints) in
      let fits_b : FitsSigned w64 b = omega (arith, ints) in
      to_z-of_z w64 _ product_fits ∙ simp to_z-of_z

module _ (a b c d : ℤ)
    (small_a : unsigned_abs a < 2 ^ 24) (half_b : unsigned_abs b < 2 ^ 32) (small_c : unsigned_abs c < 2 ^ 24) (half_d : unsigned_abs d < 2 ^ 32) where
  -- a difference of two such products fits
  pub difference_fits : FitsSigned w64 (read (read a *ℤ read b) -ℤ read (read c *ℤ read d))
  difference_fits =
      let left = product_size a b small_a half_b in
      let right = product_size c d small_c half_d in
      rw (product_read a b small_a half_b, product_read c d small_c half_d) (omega (arith, ints))

  -- and is computed as it is
  pub difference_read : read (read (read a *ℤ read b) -ℤ read (read c *ℤ read d)) ≡ a *ℤ b -ℤ c *ℤ d
  difference_read = to_z-of_z w64 _ difference_fits ∙ (λ i. product_read a b small_a half_b i -ℤ product_read c d small_c half_d i)

module _ (a b c d : ℤ)
    (small_a : unsigned_abs a < 2 ^ 24) (small_b : unsigned_abs b < 2 ^ 24) (small_c : unsigned_abs c < 2 ^ 24) (small_d : unsigned_abs d < 2 ^ 24) where
  -- of four small numbers the difference is below a bound
  pub difference_small : unsigned_abs (read (read (read a *ℤ read b) -ℤ read (read c *ℤ read d))) < 2 ^ 49
  difference_small =
      let left = small_product a b small_a small_b in
      let right = small_product c d small_c small_d in
      rw (difference_read a b c d small_a (fits_half b small_b) small_c (fits_half d small_d)) (omega (arith, ints))

-- all that a difference of two products needs
pub ruleset products = (product_fits, difference_fits, difference_read, to_z-of_z)

-- all that the product of two vectors needs
pub ruleset cross_product = (fits_half, product_fits, difference_fits, difference_read, difference_small)

-- the cross product of the ways from a point to two others is the determinant of the three
pub ruleset cross_is_determinant = (determinant_of_whole, to_z-of_z)
