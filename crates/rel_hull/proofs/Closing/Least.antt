-- Of points that turn round one another a round that begins with the least start of a side.
use Rattle.std.proofs.Common.{◌⊎◌, inl, inr, refl, sym, subst, ℕ, ◌<◌, ◌≤◌, List, length, slice_index}
use Rattle.std.proofs.lemmas.Bool.{cases_lt}
use Rattle.hulls.proofs.Outer.{some_or_none}
use Rattle.hulls.proofs.Round.{IsIn, is_in_or_not, place_after, round_closes}
use Rattle.hulls.specs.Round.{AreTurning, Follows, IsRoundOf, IsSideOf}

-- the round begins with the least start
pub record IsFromLeast (n : ℕ) (Left : ℕ → ℕ → ℕ → Type 0) (round : List ℕ) : Type 0 where
  pub is : IsRoundOf n Left round
  pub end : ℕ
  pub side : IsSideOf n Left (slice_index round 0) end
  pub least : (s t : ℕ) → IsSideOf n Left s t → slice_index round 0 ≤ s

module _ (n : ℕ) (Left : ℕ → ℕ → ℕ → Type 0) where
  -- a side goes from each number of a round,
  pub side_from : (round : List ℕ) → IsRoundOf n Left round → (i : ℕ) → i < length round
      → IsSideOf n Left (slice_index round i) (slice_index round (place_after round i))
  side_from round is i within = (is.sides _ _).1 (record { i = i; in_list = within; at = refl; next = refl })

  -- and where one goes from, that is a number of it
  start_in : (round : List ℕ) → IsRoundOf n Left round → (s t : ℕ) → IsSideOf n Left s t → IsIn round s
  start_in round is s t side =
      let follows : Follows round s t = (is.sides s t).0 side in
      record { place = follows.i; within = follows.in_list; at = follows.at }

  module _ (turning : AreTurning n Left) where
    -- from a least start there is a round
    round_from : (s t : ℕ) → IsSideOf n Left s t → ((r u : ℕ) → IsSideOf n Left r u → s ≤ r) → (round : List ℕ) × IsFromLeast n Left round
    round_from s t side least =
        let (round, is, first) = (round_closes n Left turning s t side).0 in (
          round,
          record {
            is = is;
            end = t;
            side = subst (λ (x : ℕ). IsSideOf n Left x t) (sym first) side;
            least = λ r u other. subst (λ (x : ℕ). x ≤ r) (sym first) (least r u other);
          },
        )

    -- where there is a side there is a least start, and so such a round
    pub round_from_least : (s t : ℕ) → IsSideOf n Left s t → (round : List ℕ) × IsFromLeast n Left round
    round_from_least s t side =
        let (some, is, first) = (round_closes n Left turning s t side).0 in
        elim (some_or_none (IsIn some) n (λ x _. in_or_not some x)) [
          | inr none ↦ absurd (none s side.s_in (start_in some is s t side))
          | inl found ↦
              let r = found.0 in
              let inside = found.2 in
              let from = subst (λ (x : ℕ). IsSideOf n Left x (slice_index some (place_after some inside.place))) inside.at
              (side_from some is inside.place inside.within) in
              round_from r _ from (λ q u other. elim (cases_lt q r) [
                | inl less ↦ absurd (found.3 q less (start_in some is q u other))
                | inr more ↦ more
              ])
        ]
      where
        in_or_not : (round : List ℕ) (x : ℕ) → IsIn round x ⊎ (¬ IsIn round x)
        in_or_not round x = elim (is_in_or_not round x) [
          | inl inside ↦ inl inside
          | inr none ↦ inr (λ inside. none inside.place inside.within inside.at)
        ]
