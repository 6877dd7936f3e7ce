-- The pigeonhole principle: where each number below n is paired with one below n, and no two with the same, each is paired with some.
use Rattle.std.proofs.Common.{◌≡◌, ◌≢◌, ◌⊎◌, inl, inr, refl, sym, subst, ℕ, zero, suc, ◌<◌, arith}
use Rattle.std.proofs.lemmas.Bool.{cases_eq}

-- each number below n is paired with one below n, and no two with the same
pub record IsOneToOne (R : ℕ → ℕ → Type 0) (n : ℕ) : Type 0 where
  pub each : (k : ℕ) → k < n → (l : ℕ) × (l < n) × R k l
  pub once : (i j l : ℕ) → i < n → j < n → R i l → R j l → i ≡ j

module _ (R : ℕ → ℕ → Type 0) (n : ℕ) (is : IsOneToOne R (suc n)) (l : ℕ) (below : l < suc n) (last : R n l) where
  -- n is paired with l; without it, a number that is paired with n is paired with l instead
  abbrev Without : ℕ → ℕ → Type 0
  Without k m = ((m ≢ l) × R k m) ⊎ ((m ≡ l) × R k n)

  without_each : (k : ℕ) → k < n → (m : ℕ) × (m < n) × Without k m
  without_each k less =
      let (m, m_below, pair) = is.each k (omega (arith, less)) in
      let differ : m ≢ l = λ same. omega (arith, less, is.once k n l (omega (arith, less)) (omega arith) (subst (R k) same pair) last) in
      elim (cases_eq m n) [
        | inl at_last ↦ (l, omega (arith, below, differ, at_last), inr (refl, subst (R k) at_last pair))
        | inr not ↦ (m, omega (arith, m_below, not), inl (differ, pair))
      ]

  without_once : (i j m : ℕ) → i < n → j < n → Without i m → Without j m → i ≡ j
  without_once i j m i_below j_below (inl a) (inl b) = is.once i j m (omega (arith, i_below)) (omega (arith, j_below)) a.1 b.1
  without_once i j m i_below j_below (inl a) (inr b) = absurd (a.0 b.0)
  without_once i j m i_below j_below (inr a) (inl b) = absurd (b.0 a.0)
  without_once i j m i_below j_below (inr a) (inr b) = is.once i j n (omega (arith, i_below)) (omega (arith, j_below)) a.1 b.1

  without_last : IsOneToOne Without n
  without_last = record { each = without_each; once = without_once }

-- so some number below n is paired with each
pub all_paired : (n : ℕ) (R : ℕ → ℕ → Type 0) → IsOneToOne R n → (l : ℕ) → l < n → (k : ℕ) × (k < n) × R k l
all_paired zero R is l less = absurd (omega (arith, less))
all_paired (suc n) R is l less =
    let (m, below, last) = is.each n (omega arith) in
    let further = all_paired n (Without R n is m below last) (without_last R n is m below last) in
    elim (cases_eq l m) [
      | inl same ↦ (n, omega arith, subst (R n) (sym same) last)
      | inr other ↦ elim (cases_eq l n) [
        | inl at_last ↦
            let (k, k_below, pair) = further m (omega (arith, below, other, at_last)) in
            elim pair [
              | inl h ↦ absurd (h.0 refl)
              | inr h ↦ (k, omega (arith, k_below), subst (R k) (sym at_last) h.1)
            ]
        | inr before ↦
            let (k, k_below, pair) = further l (omega (arith, less, before)) in
            elim pair [
              | inl h ↦ (k, omega (arith, k_below), h.1)
              | inr h ↦ absurd (other h.0)
            ]
      ]
    ]
