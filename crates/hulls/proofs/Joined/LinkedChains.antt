-- A chain with bends that goes on to another.
-- Two chains with bends from one point that have the same point at a place are one up to it.
use Rattle.std.proofs.Common.{◌≡◌, inl, inr, subst, ap, ◌∙◌, ℕ, ◌+◌, ◌-◌, ◌<◌, ◌≤◌, List, ◌++◌, length, arith, refl, sym, take}
use Rattle.std.proofs.lemmas.Bool.{cases_lt}
use Rattle.std.proofs.lemmas.List.{get_or-append_right, get_or_append_left, length-append}
use Rattle.plane.specs.Point.{Point, whole}
use Rattle.rings.specs.Prelude.{IsBend, IsBentChain, IsIn, IsInner, IsSimple, origin, point_at, Sees}
use Rattle.funnels.proofs.OneChain.{before_last, front_at, front_bent, front_length, last_of, one_bent_chain}

-- the last point of one list sees the first of the other, and the way over each of them has a bend there
pub record IsLinked (ring one other : List Point) : Type 0 where
  pub differ : ¬ (last_of one ≡ point_at other 0)
  pub sees : Sees ring (whole (last_of one)) (whole (point_at other 0))
  pub bend_last : 2 ≤ length one → IsBend ring (before_last one) (last_of one) (point_at other 0)
  pub bend_first : 2 ≤ length other → IsBend ring (last_of one) (point_at other 0) (point_at other 1)

module _ (one other : List Point) where
  -- ---- places of the two lists together

  -- there are as many as in both,
  pub both_length : length (one ++ other) ≡ length one + length other
  both_length = length-append one other

  -- those of the first list,
  pub at_first : (k : ℕ) → k < length one → point_at (one ++ other) k ≡ point_at one k
  at_first k h = get_or_append_left one other origin k h

  -- and of the second
  pub at_second : (k l : ℕ) → length one + l ≡ k → point_at (one ++ other) k ≡ point_at other l
  at_second k l e = get_or-append_right one other (length one) k origin (λ i. length one) (omega arith) ∙ ap (point_at other) (omega arith)

  -- ---- what the places keep

  module _ (some : 0 < length one) (some_too : 0 < length other) where
    module _ (P : Point → Type 0) (first : (k : ℕ) → k < length one → P (point_at one k))
        (second : (k : ℕ) → k < length other → P (point_at other k)) where
      -- a property of each point,
      each_of_both : (k : ℕ) → k < length (one ++ other) → P (point_at (one ++ other) k)
      each_of_both k h = elim (cases_lt k (length one)) [
        | inl less ↦ rw (at_first k less) (first k less)
        | inr more ↦ rw (at_second k (k - length one) (omega arith)) (second (k - length one) (omega (arith, both_length)))
      ]

    module _ (P : Point → Point → Type 0) (first : (k : ℕ) → k + 1 < length one → P (point_at one k) (point_at one (k + 1)))
        (second : (k : ℕ) → k + 1 < length other → P (point_at other k) (point_at other (k + 1)))
        (link : P (last_of one) (point_at other 0)) where
      -- of each point and the next,
      pairs_of_both : (k : ℕ) → k + 1 < length (one ++ other) → P (point_at (one ++ other) k) (point_at (one ++ other) (k + 1))
      pairs_of_both k h = elim (cases_lt (k + 1) (length one)) [
        | inl less ↦ rw (at_first k (omega arith), at_first (k + 1) less) (first k less)
        | inr more ↦ elim (cases_lt k (length one)) [
          | inl last ↦
              let here : length one - 1 ≡ k = omega arith in
              rw (at_first k last, at_second (k + 1) 0 (omega arith)) (subst (λ n. P (point_at one n) (point_at other 0)) here link)
          | inr beyond ↦
              let l = k - length one in
              rw (at_second k l (omega arith), at_second (k + 1) (l + 1) (omega arith)) (second l (omega (arith, both_length)))
        ]
      ]

    module _ (P : Point → Point → Point → Type 0)
        (first : (k : ℕ) → IsInner one k → P (point_at one (k - 1)) (point_at one k) (point_at one (k + 1)))
        (second : (k : ℕ) → IsInner other k → P (point_at other (k - 1)) (point_at other k) (point_at other (k + 1)))
        (link_last : 2 ≤ length one → P (before_last one) (last_of one) (point_at other 0))
        (link_first : 2 ≤ length other → P (last_of one) (point_at other 0) (point_at other 1)) where
      -- where k is the last place of the first list,
      inner_last : (k : ℕ) → 0 < k → k + 1 ≡ length one
          → P (point_at (one ++ other) (k - 1)) (point_at (one ++ other) k) (point_at (one ++ other) (k + 1))
      inner_last k h e =
          let here : length one - 1 ≡ k = omega arith in
          let before : length one - 2 ≡ k - 1 = omega arith in
          rw (at_first (k - 1) (omega arith), at_first k (omega arith), at_second (k + 1) 0 (omega arith))
          (subst (λ n. P (point_at one (k - 1)) (point_at one n) (point_at other 0)) here
          (subst (λ n. P (point_at one n) (last_of one) (point_at other 0)) before (link_last (omega arith))))

      -- the first of the second,
      inner_first : (k : ℕ) → k ≡ length one → 2 ≤ length other
          → P (point_at (one ++ other) (k - 1)) (point_at (one ++ other) k) (point_at (one ++ other) (k + 1))
      inner_first k e h =
          let before : length one - 1 ≡ k - 1 = omega arith in
          rw (at_first (k - 1) (omega arith), at_second k 0 (omega arith), at_second (k + 1) 1 (omega arith))
          (subst (λ n. P (point_at one n) (point_at other 0) (point_at other 1)) before (link_first h))

      -- and of each inner point and those beside it
      inner_of_both : (k : ℕ) → IsInner (one ++ other) k
          → P (point_at (one ++ other) (k - 1)) (point_at (one ++ other) k) (point_at (one ++ other) (k + 1))
      inner_of_both k inner =
          let some_before = inner.not_first in
          let some_after = inner.not_last in
          elim (cases_lt (k + 1) (length one)) [
            | inl less ↦
                rw (at_first (k - 1) (omega arith), at_first k (omega arith), at_first (k + 1) less)
                (first k (record { not_first = some_before; not_last = less }))
            | inr more ↦ elim (cases_lt k (length one)) [
              | inl last ↦ inner_last k some_before (omega arith)
              | inr beyond ↦ elim (cases_lt (length one) k) [
                | inr equal ↦ inner_first k (omega arith) (omega (arith, both_length))
                | inl inside ↦
                    let l = k - length one in
                    rw (at_second (k - 1) (l - 1) (omega arith), at_second k l (omega arith), at_second (k + 1) (l + 1) (omega arith))
                    (second l (record { not_first = omega arith; not_last = omega (arith, both_length) }))
              ]
            ]
          ]

-- so chains with bends that are linked are one
pub linked_bent : (ring one other : List Point) → IsBentChain ring one → IsBentChain ring other → IsLinked ring one other
    → IsBentChain ring (one ++ other)
linked_bent ring one other bent bent_too link =
    let some = bent.chain.some in
    let some_too = bent_too.chain.some in
    record {
      chain = record {
        some = omega (arith, both_length one other);
        inside = each_of_both one other some some_too (λ p. IsIn ring (whole p)) bent.chain.inside bent_too.chain.inside;
        distinct = pairs_of_both one other some some_too (λ p q. ¬ (p ≡ q)) bent.chain.distinct bent_too.chain.distinct link.differ;
        sees = pairs_of_both one other some some_too (λ p q. Sees ring (whole p) (whole q)) bent.chain.sees bent_too.chain.sees link.sees;
      };
      bends = inner_of_both one other some some_too (IsBend ring) bent.bends bent_too.bends link.bend_last link.bend_first;
    }

-- the first n points of a list end with its n-th
front_ends : (chain : List Point) (n : ℕ) → n ≤ length chain → (k : ℕ) → k + 1 ≡ n → last_of (take n chain) ≡ point_at chain k
front_ends chain n within k e =
    let last : length (take n chain) - 1 ≡ k = omega (arith, front_length chain n within, e) in
    ap (point_at (take n chain)) last ∙ front_at chain n within k (omega (arith, e))

-- so two chains with bends from one point to one are one
pub one_front : (ring : List Point) → 3 ≤ length ring → IsSimple ring → (first second : List Point) → IsBentChain ring first
    → IsBentChain ring second → point_at first 0 ≡ point_at second 0 → (k : ℕ) → k < length first → k < length second
    → point_at first k ≡ point_at second k → take (k + 1) first ≡ take (k + 1) second
one_front ring some simple first second bent bent_too begins k within within_too same =
    let n = k + 1 in
    let positive : 0 < n = omega arith in
    let fits : n ≤ length first = omega (arith, within) in
    let fits_too : n ≤ length second = omega (arith, within_too) in
    one_bent_chain ring some simple (take n first) (take n second) (front_bent first n fits ring positive bent)
    (front_bent second n fits_too ring positive bent_too)
    (front_at first n fits 0 positive ∙ begins ∙ sym (front_at second n fits_too 0 positive))
    (front_ends first n fits k refl ∙ same ∙ sym (front_ends second n fits_too k refl))
