-- Lists of the numbers that are not such, as those of outer points, one number after another, and their order.
use Rattle.std.proofs.Common.{◌≡◌, ◌⊎◌, inl, inr, ℕ, zero, suc, ◌+◌, ◌<◌, ◌≤◌, List, [], ◌∷◌, ◌++◌, length, get_or, slice_index, subst, ◌∙◌, arith}
use Rattle.std.proofs.lemmas.Bool.{cases_eq, cases_lt}
use Rattle.std.proofs.lemmas.List.{get_or_default, get_or_past}
use Rattle.std.proofs.lemmas.List.Elements.{Contains-append_left, Contains-get_or, Contains-push, Contains-push_cases}
use Rattle.std.specs.List.{Contains}
use Rattle.plane.proofs.Lists.{ordered_push}
use Rattle.rel_hull.specs.Told.{AreOthersBelow}

-- an element stands at its place, at any default
pub contained_at : (xs : List ℕ) (x : ℕ) → (inside : Contains xs x) → slice_index xs inside.0 ≡ x
contained_at xs x inside = get_or_default xs inside.0 0 x inside.1 ∙ inside.2

module _ (Is : ℕ → Type 0) (n : ℕ) (others : List ℕ) (are : AreOthersBelow Is n others) where
  -- the next number is not such
  pub others_more : ¬ Is n → AreOthersBelow Is (n + 1) (others ++ n ∷ [])
  others_more not = record {
    below = λ s inside. elim (Contains-push_cases others n s inside) [
      | inl before ↦ let h = are.below s before in omega arith
      | inr e ↦ omega arith
    ];
    none = λ s inside. elim (Contains-push_cases others n s inside) [
      | inl before ↦ are.none s before
      | inr e ↦ subst (λ (k : ℕ). ¬ Is k) e not
    ];
    all = λ s h other. elim (cases_eq n s) [
      | inl e ↦ subst (λ (k : ℕ). Contains (others ++ n ∷ []) k) e (Contains-push others n)
      | inr apart ↦ Contains-append_left others (n ∷ []) s (are.all s (omega arith) other)
    ];
    ascending = ordered_push ◌<◌ others n 0 are.ascending are.below;
  }

  -- or it is
  pub others_same : Is n → AreOthersBelow Is (n + 1) others
  others_same is = record {
    below = λ s inside. let h = are.below s inside in omega arith;
    none = are.none;
    all = λ s h other. elim (cases_eq n s) [
      | inl e ↦ absurd (other (subst Is e is))
      | inr apart ↦ are.all s (omega arith) other
    ];
    ascending = are.ascending;
  }

-- so there is such a list
pub some_others : (Is : ℕ → Type 0) → ((s : ℕ) → Is s ⊎ (¬ Is s)) → (n : ℕ) → (others : List ℕ) × AreOthersBelow Is n others
some_others Is decide zero = (
  [],
  record {
    below = λ s inside. absurd (omega (arith, inside.1));
    none = λ s inside. absurd (omega (arith, inside.1));
    all = λ s h other. absurd (omega (arith, h));
    ascending = λ k l less h. absurd (omega (arith, h));
  },
)
some_others Is decide (suc n) =
    let found = some_others Is decide n in
    let next : n + 1 ≡ suc n = omega arith in
    elim (decide n) [
      | inl is ↦ (found.0, subst (λ (k : ℕ). AreOthersBelow Is k found.0) next (others_same Is n found.0 found.1 is))
      | inr not ↦ (found.0 ++ n ∷ [], subst (λ (k : ℕ). AreOthersBelow Is k (found.0 ++ n ∷ [])) next (others_more Is n found.0 found.1 not))
    ]

-- ---- the order of such a list

module _ (outer : List ℕ) (n : ℕ) (below : (s : ℕ) → Contains outer s → s < n)
    (ascending : (k l : ℕ) → k < l → l < length outer → slice_index outer k < slice_index outer l) where
  -- a later point is not less
  pub not_less : (k l : ℕ) → k ≤ l → l < length outer → slice_index outer k ≤ slice_index outer l
  not_less k l h in_list = elim (cases_eq k l) [
    | inl e ↦ rw e (omega arith)
    | inr other ↦ let rises = ascending k l (omega arith) in_list in omega arith
  ]

  -- the first point is the least
  pub first_least : (x : ℕ) → Contains outer x → get_or outer 0 n ≤ x
  first_least x inside =
      let least = not_less 0 inside.0 (omega arith) inside.1 in
      let some : 0 < length outer = let h = inside.1 in omega arith in
      rw (get_or_default outer 0 n 0 some) (rw (contained_at outer x inside) at least)

  -- no point is between one and the next
  pub none_between : (j x : ℕ) → j < length outer → Contains outer x → x < get_or outer (j + 1) n → x ≤ slice_index outer j
  none_between j x at_j inside h = elim (cases_lt j inside.0) [
    | inl after ↦
        let next : j + 1 < length outer = let within = inside.1 in omega arith in
        let later = not_less (j + 1) inside.0 (omega arith) inside.1 in
        let is = contained_at outer x inside in
        let less = rw (get_or_default outer (j + 1) n 0 next) at h in
        absurd (omega arith)
    | inr not_after ↦ rw (contained_at outer x inside) at (not_less inside.0 j not_after at_j)
  ]

  -- the next point is greater
  pub next_greater : (j : ℕ) → j < length outer → slice_index outer j < get_or outer (j + 1) n
  next_greater j at_j = elim (cases_lt (j + 1) (length outer)) [
    | inl next ↦ rw (get_or_default outer (j + 1) n 0 next) (ascending j (j + 1) (omega arith) next)
    | inr last ↦ rw (get_or_past outer (j + 1) n last) (below (slice_index outer j) (Contains-get_or outer j 0 at_j))
  ]
