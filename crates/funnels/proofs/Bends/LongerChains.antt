-- A chain with bends goes on to one more point that its last point sees.
use Rattle.std.proofs.Common.{◌≡◌, inl, inr, sym, subst, ap, ◌∙◌, ℕ, ◌+◌, ◌-◌, ◌<◌, ◌≤◌, List, [], ◌∷◌, ◌++◌, length, arith}
use Rattle.std.proofs.lemmas.Bool.{cases_lt}
use Rattle.std.proofs.lemmas.List.{get_or_append_left, get_or_push, length-append}
use Rattle.plane.specs.Point.{Point, whole}
use Rattle.rings.specs.Prelude.{IsBend, IsBentChain, IsIn, IsInner, origin, point_at, Sees}

module _ (c : List Point) (v y : Point) (last : point_at c (length c - 1) ≡ v) where
  -- ---- places of the longer list

  -- it has one more,
  one_more : length (c ++ y ∷ []) ≡ length c + 1
  one_more = length-append c (y ∷ [])

  -- the places before that are as they were,
  at_earlier : (k : ℕ) → k < length c → point_at (c ++ y ∷ []) k ≡ point_at c k
  at_earlier k h = get_or_append_left c (y ∷ []) origin k h

  -- the point that was last is there,
  at_last : (k : ℕ) → k + 1 ≡ length c → point_at (c ++ y ∷ []) k ≡ v
  at_last k e = at_earlier k (omega arith) ∙ ap (point_at c) (omega arith) ∙ last

  -- and then comes the new one
  at_new : (k : ℕ) → length c ≡ k → point_at (c ++ y ∷ []) k ≡ y
  at_new k e = get_or_push c y origin k e

  -- ---- what the places keep

  module _ (P : Point → Type 0) where
    -- a property of each point,
    each_more : ((k : ℕ) → k < length c → P (point_at c k)) → P y → (k : ℕ) → k < length (c ++ y ∷ []) → P (point_at (c ++ y ∷ []) k)
    each_more old new k h = elim (cases_lt k (length c)) [
      | inl earlier ↦ subst P (sym (at_earlier k earlier)) (old k earlier)
      | inr late ↦ subst P (sym (at_new k (omega (arith, one_more)))) new
    ]

  module _ (P : Point → Point → Type 0) where
    -- of each point and the next,
    pairs_more : ((k : ℕ) → k + 1 < length c → P (point_at c k) (point_at c (k + 1))) → P v y
        → (k : ℕ) → k + 1 < length (c ++ y ∷ []) → P (point_at (c ++ y ∷ []) k) (point_at (c ++ y ∷ []) (k + 1))
    pairs_more old new k h = elim (cases_lt (k + 1) (length c)) [
      | inl earlier ↦ rw (at_earlier k (omega arith), at_earlier (k + 1) earlier) (old k earlier)
      | inr late ↦
          let end : k + 1 ≡ length c = omega (arith, one_more) in
          rw (at_last k end, at_new (k + 1) (sym end)) new
    ]

  module _ (P : Point → Point → Point → Type 0) where
    -- and of each inner point and those beside it
    inner_more : ((k : ℕ) → IsInner c k → P (point_at c (k - 1)) (point_at c k) (point_at c (k + 1)))
        → (2 ≤ length c → P (point_at c (length c - 2)) v y) → (k : ℕ) → IsInner (c ++ y ∷ []) k
        → P (point_at (c ++ y ∷ []) (k - 1)) (point_at (c ++ y ∷ []) k) (point_at (c ++ y ∷ []) (k + 1))
    inner_more old new k inner = elim (cases_lt (k + 1) (length c)) [
      | inl earlier ↦
          rw (at_earlier (k - 1) (omega arith), at_earlier k (omega arith), at_earlier (k + 1) earlier)
          (old k (record { not_first = inner.not_first; not_last = earlier }))
      | inr late ↦
          let end : k + 1 ≡ length c = omega (arith, one_more, inner.not_last) in
          let before : point_at (c ++ y ∷ []) (k - 1) ≡ point_at c (length c - 2) =
          at_earlier (k - 1) (omega arith) ∙ ap (point_at c) (omega (arith, inner.not_first)) in
          rw (before, at_last k end, at_new (k + 1) (sym end)) (new (omega (arith, inner.not_first)))
    ]

  -- ---- chains

  -- so a chain with bends goes on to a point that its last point sees, with a bend at that where it is not the first
  pub chain_more : (ring : List Point) → IsBentChain ring c → Sees ring (whole v) (whole y) → ¬ (v ≡ y) → IsIn ring (whole y)
      → (2 ≤ length c → IsBend ring (point_at c (length c - 2)) v y) → IsBentChain ring (c ++ y ∷ [])
  chain_more ring bent sees differ inside bend = record {
    chain = record {
      some = omega (arith, one_more);
      inside = each_more (λ p. IsIn ring (whole p)) bent.chain.inside inside;
      distinct = pairs_more (λ p q. ¬ (p ≡ q)) bent.chain.distinct differ;
      sees = pairs_more (λ p q. Sees ring (whole p) (whole q)) bent.chain.sees sees;
    };
    bends = inner_more (IsBend ring) bent.bends bend;
  }
