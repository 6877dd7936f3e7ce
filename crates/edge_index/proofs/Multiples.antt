-- Multiples of a number by numbers between two; numbers as they are read.
use Rattle.std.proofs.Common.{◌≡◌, ◌∙◌, ap, ◌<◌, ◌^◌, w64, inl, inr, ℤ, pos, neg_ℤ, ◌*ℤ◌, ◌≤ℤ◌, arith}
use Rattle.std.proofs.lemmas.Int.{clamps, ints, to_z-of_z}
use Rattle.std.specs.Int.{int_max, int_min}
use Rattle.std.specs.Prelude.{FitsSigned, unsigned_abs}
use Rattle.integer_algebra.proofs.Laws.{neg-mul}
use Rattle.integer_algebra.proofs.Signs.{lt_or_le, mul_order}
use Rattle.exact_plane.proofs.Registers.{read, short, short_is}
use Rattle.exact_plane.proofs.WideProducts.{product_size}

-- a number below 2 ^ 63 is read as it is
pub long_fits : (z : ℤ) → unsigned_abs z < 2 ^ 63 → FitsSigned w64 z
long_fits z small = omega (arith, ints, small)

pub long_read : (z : ℤ) → unsigned_abs z < 2 ^ 63 → read z ≡ z
long_read z small = to_z-of_z w64 z (long_fits z small)

-- the greatest multiple of a number by the whole numbers from one to another is by one of the two, and so is the least
module _ (k a b z : ℤ) (from : a ≤ℤ z) (to : z ≤ℤ b) where
  -- a multiple by a number that is not positive
  falls : (c d : ℤ) → k ≤ℤ pos 0 → c ≤ℤ d → (k *ℤ d) ≤ℤ (k *ℤ c)
  falls c d below h =
      let product = mul_order c d (neg_ℤ k) (omega (arith, ints)) h in
      omega (arith, ints, product, neg-mul k c, neg-mul k d)

  pub least_multiple : int_min (k *ℤ a) (k *ℤ b) ≤ℤ (k *ℤ z)
  least_multiple = elim (lt_or_le (pos 0) k) [
    | inl h ↦ omega (arith, ints, clamps, mul_order a z k (omega (arith, ints)) from)
    | inr h ↦ omega (arith, ints, clamps, falls z b h to)
  ]

  pub greatest_multiple : (k *ℤ z) ≤ℤ int_max (k *ℤ a) (k *ℤ b)
  greatest_multiple = elim (lt_or_le (pos 0) k) [
    | inl h ↦ omega (arith, ints, clamps, mul_order z b k (omega (arith, ints)) to)
    | inr h ↦ omega (arith, ints, clamps, falls a z h from)
  ]
