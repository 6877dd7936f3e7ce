-- Sorted pairs of numbers of which no two are the same are in order.
use Rattle.std.proofs.Common.{◌≡◌, ◌⊎◌, inl, inr, ◌∙◌, ℕ, ◌<◌, ◌≤◌, Bool, false, if◌then◌else◌, List, length, arith}
use Rattle.std.proofs.lemmas.Bool.{cases_eq}
use Rattle.std.proofs.lemmas.Bool.Decides.{nat_tests}
use Rattle.std.proofs.lemmas.Cmp.{nat_cmp_total, on_total, then_total}
use Rattle.std.proofs.lemmas.List.{get_or_default}
use Rattle.std.proofs.lemmas.List.MinMax.{ranks_by}
use Rattle.std.proofs.lemmas.List.Sorted.{sorted_far}
use Rattle.std.proofs.lemmas.Map.Keys.{IsDistinct-IsPermutation, IsDistinct-from_apart, apart_from_distinct}
use Rattle.std.specs.Cmp.{IsTotalOrder}
use Rattle.std.specs.List.{IsDistinct}
use Rattle.std.specs.Ordering.{is_lt, nat_cmp, ordering_then}
use Rattle.std.specs.Prelude.{IsPermutation, IsSorted, nat_eq}
use Rattle.std.specs.declared.cmp.Ordering.{Ordering}
use Rattle.plane.specs.Pairs.{IsPairBefore, pair_at}

-- the order by the first number, and then by the second
abbrev pub pair_cmp : ℕ × ℕ → ℕ × ℕ → Ordering
pair_cmp p q = ordering_then (nat_cmp p.0 q.0) (nat_cmp p.1 q.1)

pair_cmp_total : IsTotalOrder pair_cmp
pair_cmp_total = then_total (on_total (λ (p : ℕ × ℕ). p.0) nat_cmp_total) (on_total (λ (p : ℕ × ℕ). p.1) nat_cmp_total)

-- what does not come before comes later or is the same
not_before : (a b c d : ℕ) → is_lt (ordering_then (nat_cmp a b) (nat_cmp c d)) ≡ false → (b < a) ⊎ ((b ≡ a) × (d ≤ c))
not_before a b c d not = grind (arith, nat_tests)

-- whether two pairs are the same
abbrev is_same : ℕ × ℕ → ℕ × ℕ → Bool
is_same p q = if nat_eq p.0 q.0 then nat_eq p.1 q.1 else false

same_back : (p q : ℕ × ℕ) → is_same p q ≡ is_same q p
same_back p q = same_numbers p.0 p.1 q.0 q.1
  where
    same_numbers : (a b c d : ℕ) → (if nat_eq a c then nat_eq b d else false) ≡ (if nat_eq c a then nat_eq d b else false)
    same_numbers a b c d = grind (arith, nat_tests)

not_same : (a b c d : ℕ) → ¬ ((a ≡ c) × (b ≡ d)) → (if nat_eq a c then nat_eq b d else false) ≡ false
not_same a b c d differ = elim (cases_eq a c) [
  | inr other ↦ grind (arith, nat_tests)
  | inl first ↦ elim (cases_eq b d) [ inl second ↦ absurd (differ (first, second)) | inr other ↦ grind (arith, nat_tests) ]
]

differ : (a b c d : ℕ) → (if nat_eq a c then nat_eq b d else false) ≡ false → a ≡ c → ¬ (b ≡ d)
differ a b c d is_not first second = grind (arith, nat_tests)

module _ (pairs sorted : List (ℕ × ℕ)) (apart : (k l : ℕ) → k < l → l < length pairs → ¬ (pair_at pairs k ≡ pair_at pairs l))
    (moved : IsPermutation pairs sorted) (up : IsSorted pair_cmp sorted) where
  -- no two are the same, in the one order
  all_apart : IsDistinct is_same pairs
  all_apart = IsDistinct-from_apart is_same pairs (λ i j d less within.
      not_same _ _ _ _ (λ same. apart i j less within
      (get_or_default pairs i (0, 0) d (omega (arith, less, within)) ∙ (λ t. (same.0 t, same.1 t)) ∙ get_or_default pairs j d (0, 0) within)))

  -- and in the other
  moved_apart : (k l : ℕ) → k < l → l < length sorted → is_same (pair_at sorted k) (pair_at sorted l) ≡ false
  moved_apart k l less within =
      apart_from_distinct is_same sorted k l (0, 0) (IsDistinct-IsPermutation is_same same_back pairs sorted moved all_apart) less within

  pub pairs_in_order : (k l : ℕ) → k < l → l < length sorted → IsPairBefore (pair_at sorted k) (pair_at sorted l)
  pairs_in_order k l less within =
      let p = pair_at sorted k in
      let q = pair_at sorted l in
      let other = differ p.0 p.1 q.0 q.1 (moved_apart k l less within) in
      elim (not_before q.0 p.0 q.1 p.1 (sorted_far (λ p q. is_lt (pair_cmp p q)) (ranks_by pair_cmp_total (λ (p : ℕ × ℕ). p)) sorted up k l (0, 0)
      (omega arith) within)) [
        | inl first ↦ inl first
        | inr h ↦ let second = h.1 in let strict : ¬ (p.1 ≡ q.1) = other h.0 in inr (h.0, omega arith)
      ]
