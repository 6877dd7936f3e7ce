-- Two rounds from one number are equal, and from each start there is one.
use Rattle.std.proofs.Common.{◌≡◌, ◌≢◌, ◌↔◌, inl, inr, refl, sym, ◌∙◌, ℕ, zero, suc, ◌+◌, ◌-◌, ◌<◌, List, length, slice_index, arith, ap}
use Rattle.std.proofs.lemmas.Bool.{cases_order}
use Rattle.std.proofs.lemmas.List.{ext_get_or}
use Rattle.hulls.proofs.Round.AllSides.{after_inner, after_last, closed_is_round, place_after, closes_from}
use Rattle.hulls.proofs.Round.Places.{one_place}
use Rattle.hulls.specs.Round.{AreTurning, Follows, IsRoundOf, IsSideOf}

-- a list has no number twice, and the pairs that follow each other in it are exactly the sides
pub record IsRoundBy (Side : ℕ → ℕ → Type 0) (round : List ℕ) : Type 0 where
  pub distinct : (i j : ℕ) → i < j → j < length round → slice_index round i ≢ slice_index round j
  pub sides : (s t : ℕ) → Side s t ↔ Follows round s t

module _ (Side : ℕ → ℕ → Type 0) where
  -- a side goes from each number of a round to the one that follows
  side_after : (round : List ℕ) → IsRoundBy Side round → (i : ℕ) → i < length round
      → Side (slice_index round i) (slice_index round (place_after round i))
  side_after round is i within = (is.sides _ _).1 (record { i = i; in_list = within; at = refl; next = refl })

  module _ (one other : List ℕ) (is : IsRoundBy Side one) (is_too : IsRoundBy Side other) where
    -- after equal numbers of two rounds equal ones follow
    same_after : (i : ℕ) → i < length one → i < length other → slice_index one i ≡ slice_index other i
        → slice_index one (place_after one i) ≡ slice_index other (place_after other i)
    same_after i within within_too same =
        let follows : Follows other (slice_index one i) (slice_index one (place_after one i)) = (is_too.sides _ _).0 (side_after one is i within) in
        let at = one_place other is_too.distinct follows.i i follows.in_list within_too (follows.at ∙ same) in
        sym follows.next ∙ ap (λ k. slice_index other (place_after other k)) at

    module _ (first : slice_index one 0 ≡ slice_index other 0) where
      -- so from equal ones on all are equal,
      same_at : (i : ℕ) → i < length one → i < length other → slice_index one i ≡ slice_index other i
      same_at zero within within_too = first
      same_at (suc i) within within_too =
          let next = same_after i (omega arith) (omega arith) (same_at i (omega arith) (omega arith)) in
          let up : suc i ≡ i + 1 = omega arith in
          rw up (rw (after_inner one i (omega arith), after_inner other i (omega arith)) at next)

      -- and the second one is not longer, or its first number would come again
      not_longer : 0 < length one → length one < length other → ⊥
      not_longer some longer =
          let m : ℕ = length one - 1 in
          let next = same_after m (omega arith) (omega arith) (same_at m (omega arith) (omega arith)) in
          let again = rw (after_last one m (omega arith), after_inner other m (omega arith)) at next in
          is_too.distinct 0 (m + 1) (omega arith) (omega arith) (sym first ∙ again)

  -- the round of a start is not empty
  some_in_round : (round : List ℕ) (s t : ℕ) → IsRoundBy Side round → Side s t → 0 < length round
  some_in_round round s t is side = let follows : Follows round s t = (is.sides s t).0 side in omega (arith, follows.in_list)

  -- two rounds from one start are equal
  pub same_rounds : (s t : ℕ) → Side s t → (one other : List ℕ) → IsRoundBy Side one → IsRoundBy Side other → slice_index one 0 ≡ s
      → slice_index other 0 ≡ s → one ≡ other
  same_rounds s t side one other is is_too first first_too =
      let firsts : slice_index one 0 ≡ slice_index other 0 = first ∙ sym first_too in
      elim (cases_order (length one) (length other)) [
        | inl same ↦ ext_get_or 0 one other same (λ i within. same_at one other is is_too firsts i within (omega arith))
        | inr apart ↦ elim apart [
          | inl longer ↦ absurd (not_longer one other is is_too firsts (some_in_round one s t is side) longer)
          | inr shorter ↦ absurd (not_longer other one is_too is (sym firsts) (some_in_round other s t is_too side) shorter)
        ]
      ]

-- from each start of a side there is just one round
pub round_closes : (n : ℕ) (Left : ℕ → ℕ → ℕ → Type 0) → AreTurning n Left → (s t : ℕ) → IsSideOf n Left s t
    → ((round : List ℕ) × IsRoundOf n Left round × (slice_index round 0 ≡ s))
    × ((one other : List ℕ) → IsRoundOf n Left one → IsRoundOf n Left other → slice_index one 0 ≡ s → slice_index other 0 ≡ s → one ≡ other)
round_closes n Left turning s t side =
    let (round, closes, first) = closes_from n Left turning s t side in (
      (round, closed_is_round n Left turning round closes, first),
      λ one other is is_too. same_rounds (IsSideOf n Left) s t side one other
          (record { distinct = is.distinct; sides = is.sides }) (record { distinct = is_too.distinct; sides = is_too.sides }),
    )
