-- The order of the fractions a/u, b/v and c/w with positive denominators, by products across.
use Rattle.std.proofs.Common.{◌≡◌, [], ◌∷◌, refl, ℤ, pos, ◌-ℤ◌, ◌*ℤ◌, ◌<ℤ◌, ◌≤ℤ◌, arith}
use Rattle.std.proofs.lemmas.Int.{ints}
use Rattle.integer_algebra.proofs.Certificate.{nonnegative_by, positive_by, zero_by, ◌⊞◌, ◌⊠◌, ◌⊞⁺◌, ◌⊠⁺◌, sum_zero, product_zero}
use Rattle.integer_algebra.proofs.Polynomial.{Polynomial, var, ◌⊕◌, ◌⊖◌, ◌⊗◌}
use Rattle.integer_algebra.proofs.SignSteps.{weak}

-- c u - a w, b u - a v and c v - b w, where the variables are a, u, b, v, c and w
abbrev whole : Polynomial
whole = var 4 ⊗ var 1 ⊖ var 0 ⊗ var 5

abbrev first : Polynomial
first = var 2 ⊗ var 1 ⊖ var 0 ⊗ var 3

abbrev second : Polynomial
second = var 4 ⊗ var 3 ⊖ var 2 ⊗ var 5

module _ (a u b v c w : ℤ) (hu : pos 0 <ℤ u) (hv : pos 0 <ℤ v) (hw : pos 0 <ℤ w) where
  -- a/u ≤ b/v and b/v ≤ c/w give a/u ≤ c/w
  pub fraction_le_trans : (a *ℤ v) ≤ℤ (b *ℤ u) → (b *ℤ w) ≤ℤ (c *ℤ v) → (a *ℤ w) ≤ℤ (c *ℤ u)
  fraction_le_trans h k =
      let ab : pos 0 ≤ℤ (b *ℤ u -ℤ a *ℤ v) = omega (arith, ints) in
      let bc : pos 0 ≤ℤ (c *ℤ v -ℤ b *ℤ w) = omega (arith, ints) in
      let ac : pos 0 ≤ℤ (c *ℤ u -ℤ a *ℤ w) = nonnegative_by (var 3) whole (var 5 ⊗ first ⊕ var 1 ⊗ second) (a ∷ u ∷ b ∷ v ∷ c ∷ w ∷ []) refl hv (weak hw ⊠ ab ⊞ weak hu ⊠ bc) in
      omega (arith, ints)

  -- a/u < b/v and b/v ≤ c/w give a/u < c/w
  pub fraction_lt_le_trans : (a *ℤ v) <ℤ (b *ℤ u) → (b *ℤ w) ≤ℤ (c *ℤ v) → (a *ℤ w) <ℤ (c *ℤ u)
  fraction_lt_le_trans h k =
      let ab : pos 0 <ℤ (b *ℤ u -ℤ a *ℤ v) = omega (arith, ints) in
      let bc : pos 0 ≤ℤ (c *ℤ v -ℤ b *ℤ w) = omega (arith, ints) in
      let ac : pos 0 <ℤ (c *ℤ u -ℤ a *ℤ w) = positive_by (var 3) whole (var 5 ⊗ first ⊕ var 1 ⊗ second) (a ∷ u ∷ b ∷ v ∷ c ∷ w ∷ []) refl hv (hw ⊠⁺ ab ⊞⁺ weak hu ⊠ bc) in
      omega (arith, ints)

  -- a/u ≤ b/v and b/v < c/w give a/u < c/w
  pub fraction_le_lt_trans : (a *ℤ v) ≤ℤ (b *ℤ u) → (b *ℤ w) <ℤ (c *ℤ v) → (a *ℤ w) <ℤ (c *ℤ u)
  fraction_le_lt_trans h k =
      let ab : pos 0 ≤ℤ (b *ℤ u -ℤ a *ℤ v) = omega (arith, ints) in
      let bc : pos 0 <ℤ (c *ℤ v -ℤ b *ℤ w) = omega (arith, ints) in
      let ac : pos 0 <ℤ (c *ℤ u -ℤ a *ℤ w) = positive_by (var 3) whole (var 1 ⊗ second ⊕ var 5 ⊗ first) (a ∷ u ∷ b ∷ v ∷ c ∷ w ∷ []) refl hv (hu ⊠⁺ bc ⊞⁺ weak hw ⊠ ab) in
      omega (arith, ints)

  -- a/u = b/v and b/v = c/w give a/u = c/w
  pub fraction_eq_trans : a *ℤ v ≡ b *ℤ u → b *ℤ w ≡ c *ℤ v → a *ℤ w ≡ c *ℤ u
  fraction_eq_trans h k =
      let ab : b *ℤ u -ℤ a *ℤ v ≡ pos 0 = omega (arith, ints) in
      let bc : c *ℤ v -ℤ b *ℤ w ≡ pos 0 = omega (arith, ints) in
      let ac : c *ℤ u -ℤ a *ℤ w ≡ pos 0 = zero_by (var 3) whole (var 5 ⊗ first ⊕ var 1 ⊗ second) (a ∷ u ∷ b ∷ v ∷ c ∷ w ∷ []) refl hv (sum_zero (product_zero w ab) (product_zero u bc)) in
      omega (arith, ints)
