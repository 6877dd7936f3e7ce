-- A list of three numbers or more: the first, the second, some others and the last.
use Rattle.std.proofs.Common.{◌≡◌, sym, ap, subst, ◌∙◌, ℕ, suc, ◌+◌, ◌-◌, ◌<◌, ◌≤◌, List, [], ◌∷◌, ◌++◌, length, get_or, take, drop, arith}
use Rattle.std.proofs.lemmas.List.{append_assoc, drop_more, get_or_append_left, get_or_at, length-append, length-take-le, take-append-drop}
use Rattle.meshes.proofs.Triangulations.{by_ends_from}
use Rattle.cut_tri.specs.Piece.{tri_at_first}

-- what holds of lists in this form holds of all
pub by_ends : (P : List ℕ → Type 0) → ((v w : ℕ) (ms : List ℕ) (u : ℕ) → P (v ∷ w ∷ (ms ++ u ∷ []))) → (xs : List ℕ) → 3 ≤ length xs → P xs
by_ends P h [] some = absurd (omega arith)
by_ends P h (v ∷ xs) some = by_ends_from P v (h v) xs (omega (arith, some))

module _ (v w : ℕ) (ms : List ℕ) (u : ℕ) where
  -- the length
  pub ends_length : length (v ∷ w ∷ (ms ++ u ∷ [])) ≡ length ms + 3
  ends_length = omega (arith, length-append ms (u ∷ []))

  -- the last number
  pub last_is : get_or (v ∷ w ∷ (ms ++ u ∷ [])) (length (v ∷ w ∷ (ms ++ u ∷ [])) - 1) 0 ≡ u
  last_is = get_or_at (v ∷ w ∷ ms) u [] 0 (length (v ∷ w ∷ (ms ++ u ∷ [])) - 1) (omega (arith, length-append ms (u ∷ [])))

  -- the others
  pub middle_is : (i : ℕ) → i < length ms → get_or (v ∷ w ∷ (ms ++ u ∷ [])) (i + 2) 0 ≡ get_or ms i 0
  middle_is i h =
      let two : i + 2 ≡ suc (suc i) = omega arith in
      ap (λ k. get_or (v ∷ w ∷ (ms ++ u ∷ [])) k 0) two ∙ get_or_append_left ms (u ∷ []) 0 i h

  -- the triangle at the first
  pub first_tri_is : tri_at_first (v ∷ w ∷ (ms ++ u ∷ [])) ≡ record { a = u; b = v; c = w }
  first_tri_is = λ i. record { a = last_is i; b = v; c = w }

-- the others split at one of them
split_at : (xs : List ℕ) (i : ℕ) → i < length xs → take i xs ++ get_or xs i 0 ∷ drop (i + 1) xs ≡ xs
split_at xs i h = ap (λ ys. take i xs ++ ys) (sym (drop_more xs i 0 h)) ∙ take-append-drop i xs

-- what holds of a list at one of the others, in this form, holds of all lists
pub by_split : (P : List ℕ → ℕ → Type 0)
    → ((v w : ℕ) (cs : List ℕ) (z : ℕ) (ds : List ℕ) (u : ℕ) → P (v ∷ (w ∷ cs ++ z ∷ (ds ++ u ∷ []))) (length cs + 2))
    → (xs : List ℕ) (k : ℕ) → 2 ≤ k → k + 1 < length xs → P xs k
by_split P h xs k low high =
    by_ends (λ xs. k + 1 < length xs → P xs k)
    (λ v w ms u high.
    let i : ℕ = k - 2 in
    let within : i < length ms = omega (arith, high, ends_length v w ms u) in
    let cs : List ℕ = take i ms in
    let z : ℕ = get_or ms i 0 in
    let ds : List ℕ = drop (i + 1) ms in
    let at : length cs + 2 ≡ k = omega (arith, length-take-le i ms (omega arith)) in
    let is : cs ++ z ∷ (ds ++ u ∷ []) ≡ ms ++ u ∷ [] = sym (append_assoc cs (z ∷ ds) (u ∷ [])) ∙ ap (λ ys. ys ++ u ∷ []) (split_at ms i within) in
    subst (P (v ∷ w ∷ (ms ++ u ∷ []))) at (subst (λ ys. P (v ∷ w ∷ ys) (length cs + 2)) is (h v w cs z ds u)))
    xs (omega arith) high
