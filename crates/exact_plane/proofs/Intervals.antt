-- The lesser and the greater of two numbers, through registers.
use Rattle.std.proofs.Common.{◌≡◌, ◌∙◌, ◌<◌, ◌^◌, ℤ, ◌≤ℤ◌, arith}
use Rattle.std.proofs.lemmas.Int.{clamps, ints, to_z-of_z}
use Rattle.std.specs.Int.{int_max, int_min}
use Rattle.std.specs.Prelude.{FitsSigned, unsigned_abs}
use mir.Syntax.{w32}
use Rattle.exact_plane.proofs.Registers.{short, short_is}

module _ (a b m : ℤ) (fits_a : FitsSigned w32 a) (fits_b : FitsSigned w32 b) where
  -- the lesser is read as it is,
  pub lesser_read : m ≡ int_min (short a) (short b) → short m ≡ int_min a b
  lesser_read e =
      let is : m ≡ int_min a b = simp to_z-of_z at e in
      let fits : FitsSigned w32 m = omega (arith, ints, clamps) in
      to_z-of_z w32 m fits ∙ is

  -- and so is the greater
  pub greater_read : m ≡ int_max (short a) (short b) → short m ≡ int_max a b
  greater_read e =
      let is : m ≡ int_max a b = simp to_z-of_z at e in
      let fits : FitsSigned w32 m = omega (arith, ints, clamps) in
      to_z-of_z w32 m fits ∙ is

module _ (a b m : ℤ) (small_a : unsigned_abs a < 2 ^ 31) (small_b : unsigned_abs b < 2 ^ 31) where
  -- of numbers that fit with their opposites the lesser does so, and is at most both,
  pub lesser_small : m ≡ int_min (short a) (short b) → (unsigned_abs (short m) < 2 ^ 31) × (short m ≤ℤ a) × (short m ≤ℤ b)
  lesser_small e =
      let is = lesser_read a b m (omega (arith, ints)) (omega (arith, ints)) e in
      (omega (arith, ints, clamps), omega (arith, ints, clamps), omega (arith, ints, clamps))

  -- and the greater does so, and is at least both
  pub greater_small : m ≡ int_max (short a) (short b) → (unsigned_abs (short m) < 2 ^ 31) × (a ≤ℤ short m) × (b ≤ℤ short m)
  greater_small e =
      let is = greater_read a b m (omega (arith, ints)) (omega (arith, ints)) e in
      (omega (arith, ints, clamps), omega (arith, ints, clamps), omega (arith, ints, clamps))

-- a side that is at most another one is at most what that is,
module _ (m x z : ℤ) (small_m : unsigned_abs m < 2 ^ 31) (small_x : unsigned_abs x < 2 ^ 31) where
  pub at_most_short : m ≤ℤ short x → x ≤ℤ z → short m ≤ℤ z
  at_most_short h k = omega (arith, ints, short_is m small_m, short_is x small_x)

  -- and one that is at least another one at least what that is
  pub at_least_short : short x ≤ℤ m → z ≤ℤ x → z ≤ℤ short m
  at_least_short h k = omega (arith, ints, short_is m small_m, short_is x small_x)
