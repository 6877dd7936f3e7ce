-- Numbers that do not have one sign: the signs change between them, or both are 0.
use Rattle.std.proofs.Common.{◌≡◌, ◌⊎◌, inl, inr, ap, ℤ, pos, ◌-ℤ◌, ◌*ℤ◌, neg_ℤ, ◌<ℤ◌, ◌≤ℤ◌, arith}
use Rattle.std.proofs.lemmas.Int.{ints}
use Rattle.integer_algebra.proofs.Laws.{neg-mul, zero-mul}
use Rattle.integer_algebra.proofs.Signs.{Sign, is_negative, is_positive, is_zero, sign}
use Rattle.integer_algebra.proofs.Weights.{weighted_positive}

-- both are positive, or both are negative
abbrev pub OneSign : ℤ → ℤ → Type 0
OneSign u v = ((pos 0 <ℤ u) × (pos 0 <ℤ v)) ⊎ ((u <ℤ pos 0) × (v <ℤ pos 0))

-- two numbers may change places
pub one_sign_swapped : (u v : ℤ) → ¬ (OneSign u v) → ¬ (OneSign v u)
one_sign_swapped u v n h = n (elim h [ inl k ↦ inl (k.1, k.0) | inr k ↦ inr (k.1, k.0) ])

-- from u to v the numbers rise through 0, or fall through it, or stay there, and q is positive, negative or 0
pub data SignChange (u v q : ℤ) : Type 0 where
  rising : u ≤ℤ pos 0 → pos 0 ≤ℤ v → pos 0 <ℤ q → SignChange u v q
  falling : pos 0 ≤ℤ u → v ≤ℤ pos 0 → q <ℤ pos 0 → SignChange u v q
  level : u ≡ pos 0 → v ≡ pos 0 → q ≡ pos 0 → SignChange u v q

-- of two different numbers without one sign the greater is not below 0, and the smaller not above
straddle : (u v : ℤ) → u <ℤ v → ¬ (OneSign u v) → (u ≤ℤ pos 0) × (pos 0 ≤ℤ v)
straddle u v h n = grind (arith, ints)

-- equal ones are 0
alike : (u v : ℤ) → u ≡ v → ¬ (OneSign u v) → (u ≡ pos 0) × (v ≡ pos 0)
alike u v e n = grind (arith, ints)

-- a rise, with weights
rise : (u v A B : ℤ) → pos 0 <ℤ A → pos 0 <ℤ B → u ≤ℤ pos 0 → pos 0 ≤ℤ v → u <ℤ v → pos 0 <ℤ (v *ℤ A -ℤ u *ℤ B)
rise u v A B hA hB hu hv h =
    omega (arith, ints, neg-mul u B, weighted_positive v (neg_ℤ u) hv (omega (arith, ints)) (omega (arith, ints)) A B hA hB)

-- the change between two numbers without one sign, with weights
pub sign_change : (u v A B : ℤ) → pos 0 <ℤ A → pos 0 <ℤ B → ¬ (OneSign u v) → SignChange u v (v *ℤ A -ℤ u *ℤ B)
sign_change u v A B hA hB n = go (sign (v -ℤ u))
  where
    go : Sign (v -ℤ u) → SignChange u v (v *ℤ A -ℤ u *ℤ B)
    go (is_positive h) =
        let up : u <ℤ v = omega (arith, ints) in
        let k = straddle u v up n in
        rising k.0 k.1 (rise u v A B hA hB k.0 k.1 up)
    go (is_zero h) =
        let k = alike u v (omega (arith, ints)) n in
        level k.0 k.1 (omega (arith, ints, ap (λ z. z *ℤ B) k.0, ap (λ z. z *ℤ A) k.1, zero-mul A, zero-mul B))
    go (is_negative h) =
        let down : v <ℤ u = omega (arith, ints) in
        let k = straddle v u down (one_sign_swapped u v n) in
        falling k.1 k.0 (omega (arith, ints, rise v u B A hB hA k.0 k.1 down))

-- two changes are in one direction
pub data SameChange (u v t s q : ℤ) : Type 0 where
  both_rise : u ≤ℤ pos 0 → pos 0 ≤ℤ v → t ≤ℤ pos 0 → pos 0 ≤ℤ s → pos 0 <ℤ q → SameChange u v t s q
  both_fall : pos 0 ≤ℤ u → v ≤ℤ pos 0 → pos 0 ≤ℤ t → s ≤ℤ pos 0 → q <ℤ pos 0 → SameChange u v t s q
  both_level : u ≡ pos 0 → v ≡ pos 0 → t ≡ pos 0 → s ≡ pos 0 → SameChange u v t s q

-- changes of one size are
pub same_change : (u v t s q r : ℤ) → q ≡ r → SignChange u v q → SignChange t s r → SameChange u v t s q
same_change u v t s q r e (rising hu hv h) (rising ht hs k) = both_rise hu hv ht hs h
same_change u v t s q r e (falling hu hv h) (falling ht hs k) = both_fall hu hv ht hs h
same_change u v t s q r e (level hu hv h) (level ht hs k) = both_level hu hv ht hs
same_change u v t s q r e (rising hu hv h) (falling ht hs k) = absurd (omega (arith, ints))
same_change u v t s q r e (rising hu hv h) (level ht hs k) = absurd (omega (arith, ints))
same_change u v t s q r e (falling hu hv h) (rising ht hs k) = absurd (omega (arith, ints))
same_change u v t s q r e (falling hu hv h) (level ht hs k) = absurd (omega (arith, ints))
same_change u v t s q r e (level hu hv h) (rising ht hs k) = absurd (omega (arith, ints))
same_change u v t s q r e (level hu hv h) (falling ht hs k) = absurd (omega (arith, ints))
