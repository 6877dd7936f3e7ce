-- Pairs of numbers by the first and then by the second: the order is strict.
use Rattle.std.proofs.Common.{inl, inr, ℕ, arith}
use Rattle.plane.specs.Pairs.{IsPairBefore}

-- no pair is before itself,
pub not_before_itself : (p : ℕ × ℕ) → ¬ IsPairBefore p p
not_before_itself p before = elim before [ inl less ↦ omega (arith, less) | inr h ↦ let less = h.1 in omega (arith, less) ]

-- and what is before a pair is before all that it is before
pub before_through : (p q r : ℕ × ℕ) → IsPairBefore p q → IsPairBefore q r → IsPairBefore p r
before_through p q r h g = elim h [
  | inl less ↦ elim g [ inl more ↦ inl (omega arith) | inr both ↦ let same = both.0 in inl (omega arith) ]
  | inr both ↦
      let same = both.0 in
      let less = both.1 in
      elim g [
        | inl more ↦ inl (omega arith)
        | inr too ↦ let same_too = too.0 in let more = too.1 in inr (omega arith, omega arith)
      ]
]
