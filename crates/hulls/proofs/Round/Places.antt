-- Where a number is in a list, how many numbers below a bound a list has, and a list with one more.
use Rattle.std.proofs.Common.{◌≡◌, ◌≢◌, ◌⊎◌, inl, inr, sym, ◌∙◌, ℕ, zero, suc, ◌<◌, ◌≤◌, List, [], ◌∷◌, ◌++◌, length}
use Rattle.std.proofs.Common.{slice_index, arith}
use Rattle.std.proofs.Math.ListN.{get_or-append}
use Rattle.std.proofs.Math.Seq.{get_or-append_seam}
use Rattle.std.proofs.lemmas.Bool.{cases_eq, cases_lt, cases_order}
use Rattle.std.proofs.lemmas.List.{length_push}

-- the list has no number twice
abbrev pub HasNoneTwice : List ℕ → Type 0
HasNoneTwice list = (i j : ℕ) → i < j → j < length list → slice_index list i ≢ slice_index list j

-- in such a list a number has one place
pub one_place : (list : List ℕ) → HasNoneTwice list → (k l : ℕ) → k < length list → l < length list → slice_index list k ≡ slice_index list l
    → k ≡ l
one_place list distinct k l within within_too same = elim (cases_order k l) [
  | inl is ↦ is
  | inr apart ↦ elim apart [
    | inl less ↦ absurd (distinct k l less within_too same)
    | inr more ↦ absurd (distinct l k more within (sym same))
  ]
]

-- the number is in the list
pub record IsIn (list : List ℕ) (x : ℕ) : Type 0 where
  pub place : ℕ
  pub within : place < length list
  pub at : slice_index list place ≡ x

module _ (list : List ℕ) (x : ℕ) where
  -- it is among the first k, or it is not
  in_first : (k : ℕ) → k ≤ length list → IsIn list x ⊎ ((i : ℕ) → i < k → slice_index list i ≢ x)
  in_first zero _ = inr (λ i below. absurd (omega arith))
  in_first (suc k) within = elim (in_first k (omega arith)) [
    | inl found ↦ inl found
    | inr none ↦ elim (cases_eq (slice_index list k) x) [
      | inl same ↦ inl (record { place = k; within = omega arith; at = same })
      | inr apart ↦ inr (λ i below. elim (cases_eq i k) [
        | inl last ↦ rw last apart
        | inr before ↦ none i (omega arith)
      ])
    ]
  ]

  -- a number is in a list, or it is not
  pub is_in_or_not : IsIn list x ⊎ ((i : ℕ) → i < length list → slice_index list i ≢ x)
  is_in_or_not = in_first (length list) (omega arith)

module _ (list : List ℕ) (x : ℕ) where
  -- has what it had,
  pub more_at : (i : ℕ) → i < length list → slice_index (list ++ x ∷ []) i ≡ slice_index list i
  more_at i within = get_or-append list (x ∷ []) 0 i within

  -- and then the new one
  pub more_last : slice_index (list ++ x ∷ []) (length list) ≡ x
  more_last = get_or-append_seam list x [] 0

  -- a list with none twice and a new number has none twice
  pub more_once : HasNoneTwice list → ((i : ℕ) → i < length list → slice_index list i ≢ x) → HasNoneTwice (list ++ x ∷ [])
  more_once once new i j before within same = elim (cases_lt j (length list)) [
    | inl inside ↦ once i j before inside (sym (more_at i (omega arith)) ∙ same ∙ more_at j inside)
    | inr past ↦
        let last : j ≡ length list = omega (arith, length_push list x) in
        let at_last = rw last at same in
        new i (omega arith) (sym (more_at i (omega arith)) ∙ at_last ∙ more_last)
  ]
