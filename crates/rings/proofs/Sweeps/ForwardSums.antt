-- Vectors that do not point backward in the lexicographic order: a sum of them with weights that are not negative is 0
-- only where each part is.
use Rattle.std.proofs.Common.{◌≡◌, ◌⊎◌, inl, inr, ap, ◌∙◌, ℤ, pos, ◌+ℤ◌, ◌*ℤ◌, ◌<ℤ◌, ◌≤ℤ◌, arith}
use Rattle.std.proofs.lemmas.Int.{ints}
use Rattle.integer_algebra.proofs.Laws.{zero-mul}
use Rattle.integer_algebra.proofs.SignSteps.{not_both, not_both_positive, weak, zero_not_negative, zero_not_positive}
use Rattle.integer_algebra.proofs.Signs.{is_negative, is_positive, is_zero, factor_zero, mul_nonnegative, mul_zero_cases, sign}

-- a vector that does not point backward, with a weight
pub record Part : Type 0 where
  pub w : ℤ
  pub x : ℤ
  pub y : ℤ
  pub weighs : pos 0 ≤ℤ w
  pub forward : (pos 0 <ℤ x) ⊎ ((x ≡ pos 0) × (pos 0 ≤ℤ y))

-- its weight is 0, or its vector
abbrev pub IsNothing : Part → Type 0
IsNothing p = (p.w ≡ pos 0) ⊎ ((p.x ≡ pos 0) × (p.y ≡ pos 0))

-- its first coordinate is not negative,
across : (p : Part) → pos 0 ≤ℤ (p.w *ℤ p.x)
across p = elim p.forward [
  | inl h ↦ mul_nonnegative p.w p.x p.weighs (weak h)
  | inr h ↦ mul_nonnegative p.w p.x p.weighs (zero_not_negative h.0)
]

-- and where that is 0, the second is not
upward : (p : Part) → p.w *ℤ p.x ≡ pos 0 → pos 0 ≤ℤ (p.w *ℤ p.y)
upward p e = elim p.forward [
  | inl h ↦ elim (mul_zero_cases p.w p.x e) [
    | inl none ↦ zero_not_negative (ap (λ z. z *ℤ p.y) none ∙ zero-mul p.y)
    | inr none ↦ absurd (not_both_positive h (zero_not_positive none))
  ]
  | inr h ↦ mul_nonnegative p.w p.y p.weighs h.1
]

-- of four numbers that are not negative and add up to 0, each is 0
all_none : (k l m n : ℤ) → pos 0 ≤ℤ k → pos 0 ≤ℤ l → pos 0 ≤ℤ m → pos 0 ≤ℤ n → k +ℤ l +ℤ m +ℤ n ≡ pos 0
    → (k ≡ pos 0) × (l ≡ pos 0) × (m ≡ pos 0) × (n ≡ pos 0)
all_none k l m n hk hl hm hn e = (omega (arith, ints), omega (arith, ints), omega (arith, ints), omega (arith, ints))

-- a part whose coordinates are 0 has no weight or no vector
nothing : (p : Part) → p.w *ℤ p.x ≡ pos 0 → p.w *ℤ p.y ≡ pos 0 → IsNothing p
nothing p e f = elim (sign p.w) [
  | is_negative n ↦ absurd (not_both n p.weighs)
  | is_zero z ↦ inl z
  | is_positive k ↦
      let some = λ (e : p.w ≡ pos 0). not_both_positive k (zero_not_positive e) in
      inr (factor_zero p.w p.x some e, factor_zero p.w p.y some f)
]

-- of four such parts that add up to 0, none has both a weight and a vector
pub none_gains : (p q r s : Part) → p.w *ℤ p.x +ℤ q.w *ℤ q.x +ℤ r.w *ℤ r.x +ℤ s.w *ℤ s.x ≡ pos 0
    → p.w *ℤ p.y +ℤ q.w *ℤ q.y +ℤ r.w *ℤ r.y +ℤ s.w *ℤ s.y ≡ pos 0
    → IsNothing p × IsNothing q × IsNothing r × IsNothing s
none_gains p q r s e f =
    let x = all_none _ _ _ _ (across p) (across q) (across r) (across s) e in
    let y = all_none _ _ _ _ (upward p x.0) (upward q x.1) (upward r x.2) (upward s x.3) f in
    (nothing p x.0 y.0, nothing q x.1 y.1, nothing r x.2 y.2, nothing s x.3 y.3)
