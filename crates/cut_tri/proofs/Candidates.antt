-- The farthest of several candidates, one after another.
use Rattle.std.proofs.Common.{◌≡◌, inl, inr, refl, sym, ap, subst, ◌∙◌, ℕ, ◌+◌, ◌-◌, ◌<◌, ◌≤◌, Option, Some, None, List}
use Rattle.std.proofs.Common.{length, get_or, below_more, arith}
use Rattle.std.proofs.lemmas.Bool.{cases_lt}
use Rattle.std.proofs.lemmas.Int.{ints}
use Rattle.integer_algebra.proofs.Signs.{le_unless}
use Rattle.plane.specs.Point.{Point}
use Rattle.cut_tri.specs.Cut.{IsFarthest, IsPlaceInCorner}
use Rattle.cut_tri.specs.Corner.{IsFarther, IsFartherOf, IsFarthestBelow, candidate_at}
use Rattle.cut_tri.specs.declared.farthest.Candidate.{Candidate}

-- the best of the first n places, or none where none of their vertices is in the triangle
pub record IsBestBelow (corners : List Point) (piece : List ℕ) (n : ℕ) (best : Option Candidate) : Type 0 where
  pub none : best ≡ None → (j : ℕ) → j < n → ¬ (IsPlaceInCorner corners piece j)
  pub is_candidate : (b : Candidate) → best ≡ Some b → b ≡ candidate_at corners piece b.place
  pub farthest : (b : Candidate) → best ≡ Some b → IsFarthestBelow corners piece n b.place

-- what is not farther than one that is not farther than a third is not farther than the third
not_farther_trans : (a b c : Candidate) → ¬ (IsFarther a b) → ¬ (IsFarther b c) → ¬ (IsFarther a c)
not_farther_trans a b c h k l = grind (arith, ints)

module _ (corners : List Point) (piece : List ℕ) (n : ℕ) (best : Option Candidate) (so_far : IsBestBelow corners piece n best) where
  -- a vertex that is not in the triangle changes nothing
  pub best_past : ¬ (IsPlaceInCorner corners piece n) → IsBestBelow corners piece (n + 1) best
  best_past out = record {
    none = λ is. below_more (λ j. ¬ (IsPlaceInCorner corners piece j)) n (so_far.none is) out;
    is_candidate = so_far.is_candidate;
    farthest = λ b is.
        let far = so_far.farthest b is in
        record {
          in_corner = far.in_corner;
          farthest = below_more (λ j. IsPlaceInCorner corners piece j → ¬ (IsFarther (candidate_at corners piece j) (candidate_at corners piece b.place))) n far.farthest
              (λ h. absurd (out h));
        };
  }

  module _ (chosen : Candidate) (is : IsFartherOf best (candidate_at corners piece n) chosen) (here : IsPlaceInCorner corners piece n) where
    -- the chosen one is a candidate, and in the triangle,
    chosen_is : (chosen ≡ candidate_at corners piece chosen.place) × IsPlaceInCorner corners piece chosen.place
    chosen_is = elim is.one [
      | inl e ↦ (e ∙ ap (candidate_at corners piece) (λ i. (sym e i).place), subst (λ (c : Candidate). IsPlaceInCorner corners piece c.place) (sym e) here)
      | inr e ↦ (so_far.is_candidate chosen e, (so_far.farthest chosen e).in_corner)
    ]

    -- and none before is farther
    none_farther : (o : Option Candidate) → best ≡ o → (j : ℕ) → j < n → IsPlaceInCorner corners piece j → ¬ (IsFarther (candidate_at corners piece j) chosen)
    none_farther None e j below in_j = absurd (so_far.none e j below in_j)
    none_farther (Some b) e j below in_j =
        let known = subst (λ (c : Candidate). ¬ (IsFarther (candidate_at corners piece j) c)) (sym (so_far.is_candidate b e)) ((so_far.farthest b e).farthest j below in_j) in
        not_farther_trans (candidate_at corners piece j) b chosen known (is.best_not_farther b e)

    -- so it is the best so far
    pub best_more : IsBestBelow corners piece (n + 1) (Some chosen)
    best_more = record {
      none = λ e. absurd (cc);
      is_candidate = λ b e. subst (λ (c : Candidate). c ≡ candidate_at corners piece c.place) (some_is b e) chosen_is.0;
      farthest = λ b e. subst (λ (c : Candidate). IsFarthestBelow corners piece (n + 1) c.place) (some_is b e) (record {
        in_corner = chosen_is.1;
        farthest = below_more (λ j. IsPlaceInCorner corners piece j → ¬ (IsFarther (candidate_at corners piece j) (candidate_at corners piece chosen.place))) n
            (λ j below in_j. subst (λ (c : Candidate). ¬ (IsFarther (candidate_at corners piece j) c)) chosen_is.0 (none_farther best refl j below in_j))
            (λ in_n. subst (λ (c : Candidate). ¬ (IsFarther (candidate_at corners piece n) c)) chosen_is.0 is.candidate_not_farther);
      });
    }
      where
        some_is : (b : Candidate) → Some chosen ≡ Some b → chosen ≡ b
        some_is b e = cc

-- the farthest of all places but the last is the farthest of all
pub farthest_of_all : (corners : List Point) (piece : List ℕ) (n place : ℕ) → length piece - 1 ≤ n → IsFarthestBelow corners piece n place
    → IsFarthestBelow corners piece (length piece) place
farthest_of_all corners piece n place all far = record {
  in_corner = far.in_corner;
  farthest = λ j h in_j. far.farthest j (omega (arith, in_j.before_last)) in_j;
}

-- ---- without candidates

-- the farthest of all places is the farthest vertex in the corner, and has the least number
pub is_farthest : (corners : List Point) (piece : List ℕ) (place : ℕ) → IsFarthestBelow corners piece (length piece) place
    → IsFarthest corners piece place
is_farthest corners piece place far =
    let not_farther : (k : ℕ) → IsPlaceInCorner corners piece k → ¬ (IsFarther (candidate_at corners piece k) (candidate_at corners piece place)) =
    λ k in_k. far.farthest k (omega (arith, in_k.before_last)) in_k in
    record {
      in_corner = far.in_corner;
      farthest = λ k in_k. le_unless _ _ (λ higher. not_farther k in_k (inl higher));
      least = λ k in_k same. elim (cases_lt (get_or piece k 0) (get_or piece place 0)) [
        | inl less ↦ absurd (not_farther k in_k (inr (same, less)))
        | inr not_less ↦ not_less
      ];
    }
