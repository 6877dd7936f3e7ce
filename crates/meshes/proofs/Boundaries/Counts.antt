-- Of how many numbers below a bound something holds.
use Rattle.std.proofs.Common.{◌≡◌, ◌⊎◌, inl, inr, refl, sym, subst, ℕ, zero, suc, ◌+◌, ◌<◌, arith}
use Rattle.std.proofs.lemmas.Bool.{cases_eq}

-- P holds of m of the numbers below n
abbrev pub HoldsOf : (ℕ → Type 0) → ℕ → ℕ → Type 0
HoldsOf P zero m = m ≡ 0
HoldsOf P (suc n) m = (P n × (k : ℕ) × (m ≡ suc k) × HoldsOf P n k) ⊎ ((¬ P n) × HoldsOf P n m)

-- what holds of the same numbers holds of as many
pub same_count : (P Q : ℕ → Type 0) → ((k : ℕ) → P k → Q k) → ((k : ℕ) → Q k → P k) → (n m : ℕ) → HoldsOf P n m → HoldsOf Q n m
same_count P Q there back zero m h = h
same_count P Q there back (suc n) m (inl (here, k, is, h)) = inl (there n here, k, is, same_count P Q there back n k h)
same_count P Q there back (suc n) m (inr (not, h)) = inr (λ q. not (back n q), same_count P Q there back n m h)

-- of two things that never hold of the same number one holds of as many as both do
pub sum_count : (P Q : ℕ → Type 0) → ((k : ℕ) → P k → Q k → ⊥) → (n a b : ℕ) → HoldsOf P n a → HoldsOf Q n b
    → HoldsOf (λ k. P k ⊎ Q k) n (a + b)
sum_count P Q apart zero a b h k = omega (arith, h, k)
sum_count P Q apart (suc n) a b (inl (here, c, is, h)) (inl (there, d, is_too, k)) = absurd (apart n here there)
sum_count P Q apart (suc n) a b (inl (here, c, is, h)) (inr (not, k)) = inl (inl here, c + b, omega (arith, is), sum_count P Q apart n c b h k)
sum_count P Q apart (suc n) a b (inr (not, h)) (inl (there, d, is, k)) = inl (inr there, a + d, omega (arith, is), sum_count P Q apart n a d h k)
sum_count P Q apart (suc n) a b (inr (not, h)) (inr (not_too, k)) =
    inr (λ either. elim either [ inl p ↦ not p | inr q ↦ not_too q ], sum_count P Q apart n a b h k)

-- what holds of all numbers below n holds of n of them
pub all_count : (P : ℕ → Type 0) (n m : ℕ) → ((k : ℕ) → k < n → P k) → HoldsOf P n m → m ≡ n
all_count P zero m all h = h
all_count P (suc n) m all (inl (here, k, is, h)) = omega (arith, is, all_count P n k (λ l less. all l (omega arith)) h)
all_count P (suc n) m all (inr (not, h)) = absurd (not (all n (omega arith)))

-- what holds of none holds of 0,
no_count : (P : ℕ → Type 0) (n : ℕ) → ((k : ℕ) → k < n → ¬ P k) → HoldsOf P n 0
no_count P zero none = refl
no_count P (suc n) none = inr (none n (omega arith), no_count P n (λ k less. none k (omega arith)))

-- and what holds of one alone of 1
pub one_count : (P : ℕ → Type 0) (n k : ℕ) → k < n → P k → ((l : ℕ) → P l → l ≡ k) → HoldsOf P n 1
one_count P zero k below here only = absurd (omega arith)
one_count P (suc n) k below here only = elim (cases_eq k n) [
  | inl last ↦ inl (subst P last here, 0, refl, no_count P n (λ l less p. omega (arith, only l p)))
  | inr earlier ↦ inr (λ p. earlier (sym (only n p)), one_count P n k (omega arith) here only)
]
