-- Paths of vertices with one more at the end, or without the last one: their items and steps.
use Rattle.std.proofs.Common.{◌≡◌, ◌⊎◌, inl, inr, refl, sym, ap, subst, ◌∙◌, ℕ, zero, suc, ◌+◌, ◌-◌, ◌<◌, ◌≤◌, arith}
use Rattle.std.proofs.Common.{List, [], ◌∷◌, ◌++◌, length, take, get_or, length-append, length-take-le, get_or-take}
use Rattle.std.proofs.lemmas.Bool.{cases_lt}
use Rattle.std.proofs.lemmas.List.{get_or_append_left, get_or_at}
use Rattle.std.specs.Prelude.{slice_index}
use Rattle.sweep_tri.specs.Gaps.{before_last, last}
use Rattle.sweep_tri.specs.Region.{IsStep, RisesBy}

-- ---- one more

module _ (xs : List ℕ) (x : ℕ) where
  pub length_grown : length (xs ++ x ∷ []) ≡ length xs + 1
  length_grown = length-append xs (x ∷ [])

  -- its items are those that were there and the new one
  pub old_item : (i : ℕ) → i < length xs → get_or (xs ++ x ∷ []) i 0 ≡ get_or xs i 0
  old_item i h = get_or_append_left xs (x ∷ []) 0 i h

  pub new_item : (i : ℕ) → length xs ≡ i → get_or (xs ++ x ∷ []) i 0 ≡ x
  new_item i h = get_or_at xs x [] 0 i h

  pub item_cases : (i : ℕ) → i < length (xs ++ x ∷ [])
      → ((i < length xs) × (get_or (xs ++ x ∷ []) i 0 ≡ get_or xs i 0)) ⊎ ((length xs ≡ i) × (get_or (xs ++ x ∷ []) i 0 ≡ x))
  item_cases i h = elim (cases_lt i (length xs)) [
    | inl less ↦ inl (less, old_item i less)
    | inr not ↦ let is : length xs ≡ i = omega (arith, length_grown) in inr (is, new_item i is)
  ]

  pub last_grown : last (xs ++ x ∷ []) ≡ x
  last_grown = new_item (length (xs ++ x ∷ []) - 1) (omega (arith, length_grown))

  pub before_last_grown : 1 ≤ length xs → before_last (xs ++ x ∷ []) ≡ last xs
  before_last_grown some =
      let is : length (xs ++ x ∷ []) - 2 ≡ length xs - 1 = omega (arith, length_grown) in
      ap (λ i. get_or (xs ++ x ∷ []) i 0) is ∙ old_item (length xs - 1) (omega arith)

  -- its steps are those that were there and the one to it
  pub step_cases : (a b : ℕ) → 1 ≤ length xs → IsStep (xs ++ x ∷ []) a b → IsStep xs a b ⊎ ((last xs ≡ a) × (x ≡ b))
  step_cases a b some s =
      let within = s.in_path in
      elim (cases_lt (s.place + 1) (length xs)) [
        | inl less ↦ inl (record {
          place = s.place;
          in_path = less;
          from = sym (old_item s.place (omega arith)) ∙ s.from;
          to = sym (old_item (s.place + 1) less) ∙ s.to;
        })
        | inr not ↦
            let is : length xs ≡ s.place + 1 = omega (arith, length_grown) in
            let before : length xs - 1 ≡ s.place = omega arith in
            inr (ap (λ i. get_or xs i 0) before ∙ sym (old_item s.place (omega arith)) ∙ s.from, sym (new_item (s.place + 1) is) ∙ s.to)
      ]

-- ---- one less

module _ (xs : List ℕ) where
  abbrev pub shortened : List ℕ
  shortened = take (length xs - 1) xs

  pub length_shortened : length shortened ≡ length xs - 1
  length_shortened = length-take-le (length xs - 1) xs (omega arith)

  pub kept_item : (i : ℕ) → i < length xs - 1 → get_or shortened i 0 ≡ get_or xs i 0
  kept_item i h = get_or-take (length xs - 1) xs i 0 h

  pub last_shortened : 2 ≤ length xs → last shortened ≡ before_last xs
  last_shortened two =
      let is : length shortened - 1 ≡ length xs - 2 = omega (arith, length_shortened) in
      ap (λ i. get_or shortened i 0) is ∙ kept_item (length xs - 2) (omega arith)

  -- its steps are steps
  pub kept_step : (a b : ℕ) → IsStep shortened a b → IsStep xs a b
  kept_step a b s =
      let within = s.in_path in
      let less : s.place + 1 < length xs - 1 = omega (arith, length_shortened) in
      record {
        place = s.place;
        in_path = omega arith;
        from = sym (kept_item s.place (omega arith)) ∙ s.from;
        to = sym (kept_item (s.place + 1) less) ∙ s.to;
      }

-- ---- the last step

-- it goes to the last item,
pub final_step : (xs : List ℕ) → 2 ≤ length xs → IsStep xs (before_last xs) (last xs)
final_step xs two =
    let next : length xs - 2 + 1 ≡ length xs - 1 = omega arith in
    record { place = length xs - 2; in_path = omega arith; from = refl; to = ap (λ i. get_or xs i 0) next }

-- and any other to one before that
pub last_step : (xs : List ℕ) (a b : ℕ) → IsStep xs a b → ((before_last xs ≡ a) × (last xs ≡ b))
    ⊎ ((j : ℕ) × (j + 1 < length xs) × (get_or xs j 0 ≡ b))
last_step xs a b s =
    let within = s.in_path in
    elim (cases_lt (s.place + 2) (length xs)) [
      | inl less ↦ inr (s.place + 1, omega arith, s.to)
      | inr not ↦
          let from : length xs - 2 ≡ s.place = omega arith in
          let to : length xs - 1 ≡ s.place + 1 = omega arith in
          inl (ap (λ i. get_or xs i 0) from ∙ s.from, ap (λ i. get_or xs i 0) to ∙ s.to)
    ]

-- ---- paths that rise

module _ (ranks xs : List ℕ) (rises : RisesBy ranks xs) where
  rises_by : (i m : ℕ) → i + 1 + m < length xs → slice_index ranks (get_or xs i 0) < slice_index ranks (get_or xs (i + 1 + m) 0)
  rises_by i zero h =
      let is : i + 1 ≡ i + 1 + 0 = omega arith in
      subst (λ j. slice_index ranks (get_or xs i 0) < slice_index ranks (get_or xs j 0)) is
      (rises _ _ (record { place = i; in_path = omega arith; from = refl; to = refl }))
  rises_by i (suc m) h =
      let j : ℕ = i + 1 + m in
      let is : j + 1 ≡ i + 1 + suc m = omega arith in
      let first = rises_by i m (omega arith) in
      let next = rises _ _ (record { place = j; in_path = omega arith; from = refl; to = refl }) in
      let both : slice_index ranks (get_or xs i 0) < slice_index ranks (get_or xs (j + 1) 0) = omega (arith, first, next) in
      subst (λ n. slice_index ranks (get_or xs i 0) < slice_index ranks (get_or xs n 0)) is both

  -- each item is before those after it
  pub rises_to : (i j : ℕ) → i < j → j < length xs → slice_index ranks (get_or xs i 0) < slice_index ranks (get_or xs j 0)
  rises_to i j less within =
      let m : ℕ = j - (i + 1) in
      let is : i + 1 + m ≡ j = omega arith in
      subst (λ n. slice_index ranks (get_or xs i 0) < slice_index ranks (get_or xs n 0)) is (rises_by i m (omega arith))

  -- and none after the last
  pub rises_to_last : (i : ℕ) → i + 1 < length xs → slice_index ranks (get_or xs i 0) < slice_index ranks (last xs)
  rises_to_last i h = rises_to i (length xs - 1) (omega arith) (omega arith)
