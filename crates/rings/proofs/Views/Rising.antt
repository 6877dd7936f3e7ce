-- Rising numbers: two lists of the same numbers are one.
use Rattle.std.proofs.Common.{◌≡◌, inl, inr, refl, sym, subst, ℕ, zero, suc, ◌+◌, ◌-◌, ◌<◌, ◌≤◌, arith}
use Rattle.std.proofs.lemmas.Bool.{cases_order}

-- the first n numbers rise
abbrev pub IsRising : (ℕ → ℕ) → ℕ → Type 0
IsRising f n = (k : ℕ) → k + 1 < n → f k < f (k + 1)

-- each of the first n numbers of f is one of the first m of g
abbrev pub IsAmong : (ℕ → ℕ) → ℕ → (ℕ → ℕ) → ℕ → Type 0
IsAmong f n g m = (k : ℕ) → k < n → (j : ℕ) × (j < m) × (g j ≡ f k)

module _ (f : ℕ → ℕ) (n : ℕ) (rising : IsRising f n) where
  -- they rise by each number of steps,
  rises_by : (d j k : ℕ) → k ≡ j + d + 1 → k < n → f j < f k
  rises_by zero j k e within =
      let next : k ≡ j + 1 = omega arith in
      subst (λ i. f j < f i) (sym next) (rising j (omega arith))
  rises_by (suc d) j k e within =
      let next : k ≡ (j + d + 1) + 1 = omega arith in
      let before = rises_by d j (j + d + 1) refl (omega arith) in
      let step = rising (j + d + 1) (omega arith) in
      subst (λ i. f j < f i) (sym next) (omega (arith, before, step))

  -- so to each later place
  rises : (j k : ℕ) → j < k → k < n → f j < f k
  rises j k less within = rises_by (k - j - 1) j k (omega arith) within

-- where the numbers before place k are the same, that of g there is not greater
not_greater : (f : ℕ → ℕ) (n : ℕ) (g : ℕ → ℕ) (m : ℕ) → IsRising f n → IsRising g m → IsAmong f n g m
    → (k : ℕ) → k < n → k < m → ((j : ℕ) → j < k → f j ≡ g j) → g k ≤ f k
not_greater f n g m f_rises g_rises among k in_f in_g same =
    let (j, within, is) = among k in_f in
    elim (cases_order j k) [
      | inl e ↦ let at = subst (λ i. g i ≡ f k) e is in omega (arith, at)
      | inr (inl less) ↦ let before = same j less in let step = rises f n f_rises j k less in_f in absurd (omega (arith, is, before, step))
      | inr (inr more) ↦ let step = rises g m g_rises k j more within in omega (arith, is, step)
    ]

module _ (f : ℕ → ℕ) (n : ℕ) (g : ℕ → ℕ) (m : ℕ) (f_rises : IsRising f n) (g_rises : IsRising g m)
    (to : IsAmong f n g m) (back : IsAmong g m f n) where
  -- rising lists of the same numbers have the same at each place,
  same_before : (b k : ℕ) → k < b → k < n → k < m → f k ≡ g k
  same_before zero k less in_f in_g = absurd (omega arith)
  same_before (suc b) k less in_f in_g =
      let earlier = λ (j : ℕ) (h : j < k). same_before b j (omega arith) (omega arith) (omega arith) in
      let down = not_greater f n g m f_rises g_rises to k in_f in_g earlier in
      let up = not_greater g m f n g_rises f_rises back k in_g in_f (λ j h. sym (earlier j h)) in
      omega (arith, down, up)

  pub same_numbers : (k : ℕ) → k < n → k < m → f k ≡ g k
  same_numbers k = same_before (k + 1) k (omega arith)

  -- and the second is not longer
  pub not_longer : ¬ (n < m)
  not_longer longer =
      let (j, within, is) = back n longer in
      let same = same_numbers j within (omega arith) in
      let step = rises g m g_rises j n within longer in
      omega (arith, is, same, step)

-- so they are as long
pub as_long : (f : ℕ → ℕ) (n : ℕ) (g : ℕ → ℕ) (m : ℕ) → IsRising f n → IsRising g m → IsAmong f n g m → IsAmong g m f n → n ≡ m
as_long f n g m f_rises g_rises to back = elim (cases_order n m) [
  | inl e ↦ e
  | inr (inl less) ↦ absurd (not_longer f n g m f_rises g_rises to back less)
  | inr (inr more) ↦ absurd (not_longer g m f n g_rises f_rises back to more)
]
