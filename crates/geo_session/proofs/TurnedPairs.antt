-- Pairs of numbers below n that are numbered another way, the lesser number first again. What is numbered twice is as it was.
use Rattle.std.proofs.Common.{◌≡◌, ◌≢◌, ◌⊎◌, inl, inr, refl, ap, ◌∙◌, sym, ℕ, ◌<◌, min, max, arith}
use Rattle.std.proofs.lemmas.Bool.{cases_order}

-- the new numbers of a pair, in order
abbrev pub in_order : ℕ → ℕ → ℕ × ℕ
in_order a b = (min a b, max a b)

abbrev pub renumbered : (ℕ → ℕ) → ℕ × ℕ → ℕ × ℕ
renumbered number p = in_order (number p.0) (number p.1)

-- two numbers in order
ordered : (a b : ℕ) → a < b → in_order a b ≡ (a, b)
ordered a b less = let least : min a b ≡ a = omega arith in let greatest : max a b ≡ b = omega arith in rw (least, greatest) refl

swapped : (a b : ℕ) → a < b → in_order b a ≡ (a, b)
swapped a b less = let least : min b a ≡ a = omega arith in let greatest : max b a ≡ b = omega arith in rw (least, greatest) refl

module _ (n : ℕ) (number : ℕ → ℕ) (twice : (i : ℕ) → i < n → number (number i) ≡ i) where
  -- different numbers stay different
  pub differ : (i j : ℕ) → i < n → j < n → i ≢ j → number i ≢ number j
  differ i j i_below j_below other same = other (sym (twice i i_below) ∙ ap number same ∙ twice j j_below)

  -- a pair is numbered in one order or the other
  pub order_cases : (i j : ℕ) → i < j → j < n
      → ((number i < number j) × (renumbered number (i, j) ≡ (number i, number j)))
      ⊎ ((number j < number i) × (renumbered number (i, j) ≡ (number j, number i)))
  order_cases i j less below = elim (cases_order (number i) (number j)) [
    | inl same ↦ absurd (differ i j (omega (arith, less, below)) below (λ e. omega (arith, e, less)) same)
    | inr (inl before) ↦ inl (before, ordered (number i) (number j) before)
    | inr (inr after) ↦ inr (after, swapped (number j) (number i) after)
  ]

  -- so the pair that is numbered twice is as it was,
  pub renumbered_twice : (i j : ℕ) → i < j → j < n → renumbered number (renumbered number (i, j)) ≡ (i, j)
  renumbered_twice i j less below =
      let first = twice i (omega (arith, less, below)) in
      let second = twice j below in
      elim (order_cases i j less below) [
        | inl h ↦ ap (renumbered number) h.1 ∙ rw (first, second) (ordered i j less)
        | inr h ↦ ap (renumbered number) h.1 ∙ rw (first, second) (swapped i j less)
      ]

  -- and different pairs stay different
  pub pairs_differ : (p q : ℕ × ℕ) → p.0 < p.1 → p.1 < n → q.0 < q.1 → q.1 < n → ¬ (p ≡ q) → ¬ (renumbered number p ≡ renumbered number q)
  pairs_differ p q p_less p_below q_less q_below other same =
      other (sym (renumbered_twice p.0 p.1 p_less p_below) ∙ ap (renumbered number) same ∙ renumbered_twice q.0 q.1 q_less q_below)
