-- Pairs of numbers below 2 ^ 14 in lexicographic order are fewer than 2 ^ 32; and a ring has one list of its sights, of so few.
use Rattle.std.proofs.Common.{inl, inr, ℕ, zero, suc, ◌+◌, ◌*◌, ◌-◌, ◌<◌, ◌≤◌, ◌^◌, List, length, arith}
use Rattle.std.proofs.lemmas.Bool.{cases_lt}
use Rattle.std.proofs.lemmas.List.Elements.{Contains-get_or}
use Rattle.plane.proofs.Lists.{before_through, not_before_itself, one_ordered}
use Rattle.plane.specs.Pairs.{IsPairBefore, pair_at}
use Rattle.plane.specs.Point.{Point}
use Rattle.plane.specs.declared.limits.TheConstants.{MAX_CORNERS}
use Rattle.pair_cut.specs.Pairs.{AreSights, OneSightsLaw}

module _ (pairs : List (ℕ × ℕ)) (below : (k : ℕ) → k < length pairs → ((pair_at pairs k).0 < 16384) × ((pair_at pairs k).1 < 16384))
    (sorted : (k l : ℕ) → k < l → l < length pairs → IsPairBefore (pair_at pairs k) (pair_at pairs l)) where
  -- they rise in an order of so many pairs
  rank_below : (k : ℕ) → k < length pairs → k ≤ 16384 * (pair_at pairs k).0 + (pair_at pairs k).1
  rank_below zero within = omega arith
  rank_below (suc k) within =
      let before : k < length pairs = omega (arith, within) in
      let rank = rank_below k before in
      elim (sorted k (suc k) (omega arith) within) [
        | inl less ↦ omega (arith, (below k before).1, rank, less)
        | inr h ↦ omega (arith, rank, h.0, h.1)
      ]

  pub sorted_few : length pairs < 2 ^ 32
  sorted_few = elim (cases_lt 0 (length pairs)) [
    | inl some ↦
        let last : length pairs - 1 < length pairs = omega arith in
        let at = below (length pairs - 1) last in
        omega (arith, rank_below (length pairs - 1) last, at.0, at.1)
    | inr none ↦ omega arith
  ]

pub sights_few : (ring : List Point) (pairs : List (ℕ × ℕ)) → AreSights ring pairs → length ring ≤ MAX_CORNERS → length pairs < 2 ^ 32
sights_few ring pairs are few =
    sorted_few pairs
    (λ k within.
    let sight = (are.exactly (pair_at pairs k).0 (pair_at pairs k).1).0 (Contains-get_or pairs k (0, 0) within) in
    (omega (arith, sight.order, sight.in_ring, few), omega (arith, sight.in_ring, few)))
    are.sorted

-- two lists of the sights of a ring are equal
pub one_sights : OneSightsLaw
one_sights ring one other are are_too =
    one_ordered IsPairBefore not_before_itself before_through (0, 0) one other are.sorted are_too.sorted
    (λ p inside. (are_too.exactly p.0 p.1).1 ((are.exactly p.0 p.1).0 inside))
    (λ p inside. (are.exactly p.0 p.1).1 ((are_too.exactly p.0 p.1).0 inside))
