-- Whether two integers are equal, and whether two facts hold together, or one of them does.
use Rattle.std.proofs.Common.{◌≡◌, ◌⊎◌, inl, inr, ℤ, ◌-ℤ◌, arith}
use Rattle.std.proofs.lemmas.Int.{ints}
use Rattle.integer_algebra.proofs.Signs.{is_negative, is_positive, is_zero, sign}

-- two integers are equal or not
pub equal_or_not : (a b : ℤ) → (a ≡ b) ⊎ (¬ (a ≡ b))
equal_or_not a b = elim (sign (a -ℤ b)) [
  | is_negative h ↦ inr (λ e. omega (arith, ints))
  | is_zero h ↦ inl (omega (arith, ints))
  | is_positive h ↦ inr (λ e. omega (arith, ints))
]

-- two decisions make one of both facts together,
pub both_or_not : {A B : Type 0} → A ⊎ (¬ A) → B ⊎ (¬ B) → (A × B) ⊎ (¬ (A × B))
both_or_not (inl a) (inl b) = inl (a, b)
both_or_not (inl a) (inr n) = inr (λ h. n h.1)
both_or_not (inr n) k = inr (λ h. n h.0)

-- and one of either
pub either_or_not : {A B : Type 0} → A ⊎ (¬ A) → B ⊎ (¬ B) → (A ⊎ B) ⊎ (¬ (A ⊎ B))
either_or_not (inl a) k = inl (inl a)
either_or_not (inr n) (inl b) = inl (inr b)
either_or_not (inr n) (inr m) = inr (λ h. elim h [ inl a ↦ n a | inr b ↦ m b ])
