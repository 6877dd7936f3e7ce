-- The step from one number to another, counted once in its direction and the opposite way back: its sums round triangles and pieces.
use Rattle.std.proofs.Common.{◌≡◌, ◌≢◌, ◌⊎◌, inl, inr, sym, ◌∙◌, ℕ, ℤ, pos, negsuc, ◌+ℤ◌, ◌-ℤ◌, neg_ℤ, ◌≤ℤ◌, List, [], ◌∷◌, ◌++◌, arith, refl}
use Rattle.std.proofs.lemmas.Bool.{cases_eq}
use Rattle.std.proofs.lemmas.Int.{ints}
use Rattle.integer_algebra.proofs.Decisions.{both_or_not}
use Rattle.integer_algebra.proofs.SignSteps.{opposite_sum}
use Rattle.meshes.proofs.Boundaries.Sums.{both_parts, sum_of_tri}
use Rattle.meshes.proofs.Sides.{IsStep, edge_of_step, step_of_edge}
use Rattle.meshes.specs.Boundary.{IsOdd, sum_from, sum_round}
use Rattle.meshes.specs.Prelude.{HasSide, IsPieceEdge}
use Rattle.meshes.specs.declared.tri.Tri.{Tri}

-- ---- one step

-- 1 for what holds, and else 0
one_if : {A : Type 0} → A ⊎ (¬ A) → ℤ
one_if (inl h) = pos 1
one_if (inr n) = pos 0

one_cases : {A : Type 0} (d : A ⊎ (¬ A)) → (A × (one_if d ≡ pos 1)) ⊎ ((¬ A) × (one_if d ≡ pos 0))
unfolding one_if
one_cases (inl h) = inl (h, refl)
one_cases (inr n) = inr (n, refl)

-- 1 for the step from i to j
is_step : ℕ → ℕ → ℕ → ℕ → ℤ
is_step i j a b = one_if (both_or_not (cases_eq a i) (cases_eq b j))

step_here : (i j a b : ℕ) → (((a ≡ i) × (b ≡ j)) × (is_step i j a b ≡ pos 1)) ⊎ ((¬ ((a ≡ i) × (b ≡ j))) × (is_step i j a b ≡ pos 0))
unfolding is_step
step_here i j a b = one_cases (both_or_not (cases_eq a i) (cases_eq b j))

-- read backward it is the step from j to i
step_backward : (i j a b : ℕ) → is_step i j b a ≡ is_step j i a b
step_backward i j a b = elim (step_here i j b a) [
  | inl h ↦ elim (step_here j i a b) [ inl k ↦ h.1 ∙ sym k.1 | inr k ↦ absurd (k.0 (h.0.1, h.0.0)) ]
  | inr h ↦ elim (step_here j i a b) [ inl k ↦ absurd (h.0 (k.0.1, k.0.0)) | inr k ↦ h.1 ∙ sym k.1 ]
]

-- 1 for that step, -1 for the step back
pub step : ℕ → ℕ → ℕ → ℕ → ℤ
step i j a b = is_step i j a b -ℤ is_step j i a b

opposite_difference : (f g h k : ℤ) → h ≡ g → k ≡ f → h -ℤ k ≡ neg_ℤ (f -ℤ g)
opposite_difference f g h k e d = omega (arith, ints)

module _ (i j : ℕ) where
  -- so each step is the opposite of the step back,
  pub step_odd : IsOdd (step i j)
  unfolding step
  step_odd a b = opposite_difference (is_step i j a b) (is_step j i a b) _ _ (step_backward i j a b) (step_backward j i a b)

  -- and of the step between the numbers in the other order
  step_swapped : (a b : ℕ) → step j i a b ≡ neg_ℤ (step i j a b)
  unfolding step
  step_swapped a b = opposite_difference (is_step i j a b) (is_step j i a b) _ _ refl refl

  -- it is never below -1,
  step_least : (a b : ℕ) → negsuc 0 ≤ℤ step i j a b
  unfolding step
  step_least a b = elim (step_here i j a b) [
    | inl h ↦ elim (step_here j i a b) [ inl k ↦ omega (arith, ints, h.1, k.1) | inr k ↦ omega (arith, ints, h.1, k.1) ]
    | inr h ↦ elim (step_here j i a b) [ inl k ↦ omega (arith, ints, h.1, k.1) | inr k ↦ omega (arith, ints, h.1, k.1) ]
  ]

  -- negative only for the step back,
  step_low : (a b : ℕ) → ¬ ((a ≡ j) × (b ≡ i)) → pos 0 ≤ℤ step i j a b
  unfolding step
  step_low a b not_back = elim (step_here j i a b) [
    | inl k ↦ absurd (not_back k.0)
    | inr k ↦ elim (step_here i j a b) [ inl h ↦ omega (arith, ints, h.1, k.1) | inr h ↦ omega (arith, ints, h.1, k.1) ]
  ]

  -- and 1 for the step itself
  step_on : (a b : ℕ) → a ≡ i → b ≡ j → ¬ ((a ≡ j) × (b ≡ i)) → pos 1 ≤ℤ step i j a b
  unfolding step
  step_on a b from to not_back = elim (step_here j i a b) [
    | inl k ↦ absurd (not_back k.0)
    | inr k ↦ elim (step_here i j a b) [ inl h ↦ omega (arith, ints, h.1, k.1) | inr h ↦ absurd (h.0 (from, to)) ]
  ]

-- ---- round a triangle

-- three parts, each at least something
three_parts : (a b c k l m n : ℤ) → k ≤ℤ a → l ≤ℤ b → m ≤ℤ c → n ≡ k +ℤ (l +ℤ m) → n ≤ℤ (a +ℤ (b +ℤ c))
three_parts a b c k l m n h g f e = omega (arith, ints)

module _ (i j : ℕ) (t : Tri) where
  -- the sum is negative only where the triangle has the side from j to i
  pub tri_low : ¬ HasSide t j i → pos 0 ≤ℤ sum_of_tri (step i j) t
  tri_low none =
      three_parts _ _ _ (pos 0) (pos 0) (pos 0) (pos 0) (step_low i j t.a t.b (λ h. none (inl h))) (step_low i j t.b t.c (λ h. none (inr (inl h))))
      (step_low i j t.c t.a (λ h. none (inr (inr h)))) refl

  -- with the side from i to j alone it is 1
  pub tri_on : HasSide t i j → ¬ HasSide t j i → pos 1 ≤ℤ sum_of_tri (step i j) t
  tri_on (inl h) none =
      three_parts _ _ _ (pos 1) (pos 0) (pos 0) (pos 1) (step_on i j t.a t.b h.0 h.1 (λ k. none (inl k)))
      (step_low i j t.b t.c (λ k. none (inr (inl k)))) (step_low i j t.c t.a (λ k. none (inr (inr k)))) refl
  tri_on (inr (inl h)) none =
      three_parts _ _ _ (pos 0) (pos 1) (pos 0) (pos 1) (step_low i j t.a t.b (λ k. none (inl k)))
      (step_on i j t.b t.c h.0 h.1 (λ k. none (inr (inl k)))) (step_low i j t.c t.a (λ k. none (inr (inr k)))) refl
  tri_on (inr (inr h)) none =
      three_parts _ _ _ (pos 0) (pos 0) (pos 1) (pos 1) (step_low i j t.a t.b (λ k. none (inl k))) (step_low i j t.b t.c (λ k. none (inr (inl k))))
      (step_on i j t.c t.a h.0 h.1 (λ k. none (inr (inr k)))) refl

  -- and with different corners it is never below -1
  pub tri_least : t.a ≢ t.b → t.b ≢ t.c → t.c ≢ t.a → HasSide t j i → negsuc 0 ≤ℤ sum_of_tri (step i j) t
  tri_least ab bc ca (inl h) =
      three_parts _ _ _ (negsuc 0) (pos 0) (pos 0) (negsuc 0) (step_least i j t.a t.b) (step_low i j t.b t.c (λ k. ab (h.0 ∙ sym k.0)))
      (step_low i j t.c t.a (λ k. ca (k.0 ∙ sym h.0))) refl
  tri_least ab bc ca (inr (inl h)) =
      three_parts _ _ _ (pos 0) (negsuc 0) (pos 0) (negsuc 0) (step_low i j t.a t.b (λ k. ab (k.0 ∙ sym h.0))) (step_least i j t.b t.c)
      (step_low i j t.c t.a (λ k. bc (h.0 ∙ sym k.0))) refl
  tri_least ab bc ca (inr (inr h)) =
      three_parts _ _ _ (pos 0) (pos 0) (negsuc 0) (negsuc 0) (step_low i j t.a t.b (λ k. ca (h.0 ∙ sym k.0)))
      (step_low i j t.b t.c (λ k. bc (k.0 ∙ sym h.0))) (step_least i j t.c t.a) refl

-- ---- along a list and round a piece

-- the opposite of what is not negative,
opposite_low : (s r : ℤ) → r ≡ neg_ℤ s → pos 0 ≤ℤ r → s ≤ℤ pos 0
opposite_low s r e h = omega (arith, ints)

-- or at least 1
opposite_one : (s r : ℤ) → r ≡ neg_ℤ s → pos 1 ≤ℤ r → s ≤ℤ negsuc 0
opposite_one s r e h = omega (arith, ints)

module _ (i j : ℕ) where
  -- the sum is negative only where there is the step back,
  along_low : (a : ℕ) (bs : List ℕ) (last : ℕ) → ¬ IsStep a bs last j i → pos 0 ≤ℤ sum_from (step i j) a (bs ++ last ∷ [])
  along_low a [] last none = both_parts (step i j a last) (pos 0) (pos 0) (pos 0) (pos 0) (step_low i j a last none) (omega (arith, ints)) refl
  along_low a (b ∷ bs) last none =
      both_parts (step i j a b) _ (pos 0) (pos 0) (pos 0) (step_low i j a b (λ h. none (inl h))) (along_low b bs last (λ h. none (inr h))) refl

  -- and with the step and none back it is at least 1
  along_on : (a : ℕ) (bs : List ℕ) (last : ℕ) → IsStep a bs last i j → ¬ IsStep a bs last j i → pos 1 ≤ℤ sum_from (step i j) a (bs ++ last ∷ [])
  along_on a [] last here none =
      both_parts (step i j a last) (pos 0) (pos 1) (pos 0) (pos 1) (step_on i j a last here.0 here.1 none) (omega (arith, ints)) refl
  along_on a (b ∷ bs) last (inl h) none =
      both_parts (step i j a b) _ (pos 1) (pos 0) (pos 1) (step_on i j a b h.0 h.1 (λ k. none (inl k))) (along_low b bs last (λ k. none (inr k))) refl
  along_on a (b ∷ bs) last (inr h) none =
      both_parts (step i j a b) _ (pos 0) (pos 1) (pos 1) (step_low i j a b (λ k. none (inl k))) (along_on b bs last h (λ k. none (inr k))) refl

  -- in the other order of the two numbers it is the opposite
  from_swapped : (a : ℕ) (bs : List ℕ) → sum_from (step j i) a bs ≡ neg_ℤ (sum_from (step i j) a bs)
  from_swapped a [] = refl
  from_swapped a (b ∷ bs) = opposite_sum (step i j a b) (sum_from (step i j) b bs) _ _ (step_swapped i j a b) (from_swapped b bs)

module _ (i j : ℕ) where
  -- so it is round a piece: positive only with the edge,
  pub round_high : (piece : List ℕ) → ¬ IsPieceEdge piece i j → sum_round (step i j) piece ≤ℤ pos 0
  round_high [] none = omega (arith, ints)
  round_high (v ∷ vs) none =
      opposite_low _ _ (from_swapped i j v (vs ++ v ∷ [])) (along_low j i v vs v (λ s. none (edge_of_step v vs i j s)))

  -- and at most -1 with the edge back alone
  pub round_back : (piece : List ℕ) → IsPieceEdge piece j i → ¬ IsPieceEdge piece i j → sum_round (step i j) piece ≤ℤ negsuc 0
  round_back [] e none = absurd (omega (arith, e.in_piece))
  round_back (v ∷ vs) e none =
      opposite_one _ _ (from_swapped i j v (vs ++ v ∷ [])) (along_on j i v vs v (step_of_edge v vs j i e) (λ s. none (edge_of_step v vs i j s)))
