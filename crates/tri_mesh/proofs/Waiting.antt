-- The places that wait in a search: each that was reached waits, or was gone on from.
use Rattle.std.proofs.Common.{◌≡◌, sym, ap, subst, ◌∙◌, ℕ, ◌+◌, ◌-◌, ◌<◌, ◌≤◌, ◌⊎◌, inl, inr, List, [], ◌∷◌, ◌++◌, length, length-append, arith}
use Rattle.std.proofs.lemmas.Bool.{cases_lt}
use Rattle.std.proofs.lemmas.List.Elements.{Contains-append_cases, Contains-append_left, Contains-append_right, Contains-push, Contains-push_cases}
use Rattle.std.proofs.lemmas.List.FromFn.{get_or-range_with_len, length-range_with_len}
use Rattle.std.specs.List.{Contains, range_with_len}
use Rattle.plane.proofs.Lists.{in_range_from}
use Rattle.meshes.specs.declared.tri.Tri.{Tri}
use Rattle.tri_mesh.proofs.SearchSteps.{stays_reached}
use Rattle.tri_mesh.specs.Outward.{outward_at}
use Rattle.tri_mesh.specs.Search.{IsDone, IsGrown, IsReached}
use Rattle.tri_mesh.specs.declared.outward.Outward.{Outward}

-- the same numbers, from and below others that are equal
pub waiting_new : (all later : List ℕ) (a b first end : ℕ) → a ≡ first → b ≡ end → all ≡ later ++ range_with_len a (b - a)
    → all ≡ later ++ range_with_len first (end - first)
waiting_new all later a b first end low high is =
    is ∙ ap (λ n. later ++ range_with_len n (b - n)) low ∙ ap (λ n. later ++ range_with_len first (n - first)) high

module _ (tris : List Tri) (before after : List Outward) (grown : IsGrown before after) (kept : List ℕ) (place : ℕ)
    (inner : (p : ℕ) → p < length before → Contains (kept ++ place ∷ []) p ⊎ IsDone tris before (outward_at before p).tri)
    (done : IsDone tris after (outward_at before place).tri) where
  abbrev new : List ℕ
  new = range_with_len (length before) (length after - length before)

  -- the place that was last is done, and the new ones wait
  pub waits_more : (p : ℕ) → p < length after → Contains (kept ++ new) p ⊎ IsDone tris after (outward_at after p).tri
  waits_more p h = elim (cases_lt p (length before)) [
    | inr later ↦ inl (Contains-append_right kept new p (in_range_from (length before) (length after - length before) p later (omega (arith, h, later))))
    | inl early ↦ elim (inner p early) [
      | inr was ↦ inr (subst (λ (o : Outward). IsDone tris after o.tri) (sym (grown.kept p early))
          (λ l below has. stays_reached before after grown l (was l below has)))
      | inl waits ↦ elim (Contains-push_cases kept place p waits) [
        | inl kept_here ↦ inl (Contains-append_left kept new p kept_here)
        | inr is ↦ inr (subst (λ (o : Outward). IsDone tris after o.tri)
            (ap (outward_at before) is ∙ sym (grown.kept p early)) done)
      ]
    ]
  ]

  length_waits : length (kept ++ new) ≡ length kept + (length after - length before)
  length_waits = length-append kept new ∙ ap (λ k. length kept + k) (length-range_with_len (length before) (length after - length before))

  -- and all of these were reached
  pub waits_inner : ((p : ℕ) → Contains (kept ++ place ∷ []) p → p < length before) → (p : ℕ) → Contains (kept ++ new) p → p < length after
  waits_inner all p waits = elim (Contains-append_cases kept new p waits) [
    | inl kept_here ↦ omega (arith, all p (Contains-append_left kept (place ∷ []) p kept_here), grown.longer)
    | inr at ↦
        let size = length-range_with_len (length before) (length after - length before) in
        let below : at.0 < length after - length before = omega (arith, at.1, size) in
        omega (arith, at.2, get_or-range_with_len (length before) (length after - length before) at.0 p below, below)
  ]

  -- and the search ends
  pub waits_smaller : (n : ℕ) → length before ≤ n → length after ≤ n
      → n + n + length (kept ++ new) - (length after + length after) < n + n + length (kept ++ place ∷ []) - (length before + length before)
  waits_smaller n one other = omega (arith, length_waits, length-append kept (place ∷ []), one, other, grown.longer)

-- where none waits, all are done
pub none_waits : (tris : List Tri) (order : List Outward) → ((p : ℕ) → p < length order → Contains [] p ⊎ IsDone tris order (outward_at order p).tri)
    → (k : ℕ) → IsReached order k → IsDone tris order k
none_waits tris order left k is = elim (left is.0 is.1) [
  | inl waits ↦ absurd (omega (arith, waits.1))
  | inr done ↦ subst (λ t. IsDone tris order t) is.2 done
]

-- at the start the one place waits
module _ (tris : List Tri) (order : List Outward) (one : length order ≡ 1) where
  pub first_inner : (p : ℕ) → Contains ([] ++ 0 ∷ []) p → p < length order
  first_inner p waits = elim (Contains-push_cases [] 0 p waits) [
    | inl none ↦ absurd (omega (arith, none.1))
    | inr is ↦ omega (arith, is, one)
  ]

  pub first_waits : (p : ℕ) → p < length order → Contains ([] ++ 0 ∷ []) p ⊎ IsDone tris order (outward_at order p).tri
  first_waits p h =
      let is : 0 ≡ p = omega (arith, h, one) in
      inl (subst (Contains ([] ++ 0 ∷ [])) is (Contains-push [] 0))
