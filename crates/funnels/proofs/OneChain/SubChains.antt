-- The front of a chain with bends is one.
use Rattle.std.proofs.Common.{◌≡◌, sym, ap, ◌∙◌, ℕ, ◌+◌, ◌-◌, ◌<◌, ◌≤◌, List, [], ◌∷◌, ◌++◌, length, take, arith}
use Rattle.std.proofs.Math.Seq.{take-length}
use Rattle.std.proofs.lemmas.List.{get_or-take, length-take-le, take_more}
use Rattle.plane.specs.Point.{Point}
use Rattle.rings.specs.Prelude.{IsBentChain, origin, point_at}

-- ---- the front of a chain

module _ (chain : List Point) (n : ℕ) (within : n ≤ length chain) where
  -- it has that many points,
  pub front_length : length (take n chain) ≡ n
  front_length = length-take-le n chain within

  -- which are as they were
  pub front_at : (k : ℕ) → k < n → point_at (take n chain) k ≡ point_at chain k
  front_at k h = get_or-take n chain k origin h

  -- so it is a chain with bends
  pub front_bent : (ring : List Point) → 0 < n → IsBentChain ring chain → IsBentChain ring (take n chain)
  front_bent ring some bent = record {
    chain = record {
      some = omega (arith, front_length);
      inside = λ k h. rw (front_at k (omega (arith, front_length))) (bent.chain.inside k (omega (arith, front_length)));
      distinct = λ k h. rw (front_at k (omega (arith, front_length)), front_at (k + 1) (omega (arith, front_length)))
          (bent.chain.distinct k (omega (arith, front_length)));
      sees = λ k h. rw (front_at k (omega (arith, front_length)), front_at (k + 1) (omega (arith, front_length)))
          (bent.chain.sees k (omega (arith, front_length)));
    };
    bends = λ k inner.
        let last : k + 1 < n = omega (arith, front_length, inner.not_last) in
        rw (front_at (k - 1) (omega arith), front_at k (omega arith), front_at (k + 1) last)
        (bent.bends k (record { not_first = inner.not_first; not_last = omega arith }));
  }

-- a list is its front and its last point
pub front_and_last : (chain : List Point) → 0 < length chain → chain ≡ take (length chain - 1) chain ++ point_at chain (length chain - 1) ∷ []
front_and_last chain some =
    let e : length chain - 1 + 1 ≡ length chain = omega arith in
    sym (take-length chain) ∙ ap (λ n. take n chain) (sym e) ∙ take_more chain (length chain - 1) origin (omega arith)
