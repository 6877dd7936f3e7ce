-- From a start the sides close to a round.
-- A closed chain has every side, so it is a round.
use Rattle.std.proofs.Common.{◌≡◌, ◌≢◌, inl, inr, refl, sym, subst, ◌∙◌, ℕ, zero, suc, ◌+◌, ◌-◌, ◌<◌, List, [], ◌∷◌, ◌++◌, length}
use Rattle.std.proofs.Common.{slice_index, arith, ◌==◌, if◌then◌else◌}
use Rattle.std.proofs.lemmas.Bool.{cases_eq, cases_lt, cond-false, cond-true, eq-eqb, ne_eqb}
use Rattle.std.proofs.lemmas.List.{length_push}
use Rattle.plane.proofs.Lists.{few_numbers}
use Rattle.hulls.proofs.Round.Places.{HasNoneTwice, IsIn, is_in_or_not, more_at, more_last, more_once}
use Rattle.hulls.proofs.Round.Sides.{end_starts, one_start, apart_back, one_end, turned_three}
use Rattle.hulls.specs.Round.{AreTurning, IsSideOf, AreThree, Follows, IsRoundOf}

-- a side goes from each of different numbers to the next, and from the last one to t
pub record IsChain (n : ℕ) (Left : ℕ → ℕ → ℕ → Type 0) (chain : List ℕ) (t : ℕ) : Type 0 where
  pub some : 0 < length chain
  pub distinct : HasNoneTwice chain
  pub steps : (i : ℕ) → i + 1 < length chain → IsSideOf n Left (slice_index chain i) (slice_index chain (i + 1))
  pub last : IsSideOf n Left (slice_index chain (length chain - 1)) t

module _ (n : ℕ) (Left : ℕ → ℕ → ℕ → Type 0) (turning : AreTurning n Left) where
  -- the numbers of a chain are below n
  pub chain_below : (chain : List ℕ) (t : ℕ) → IsChain n Left chain t → (i : ℕ) → i < length chain → slice_index chain i < n
  chain_below chain t is i within = elim (cases_lt (i + 1) (length chain)) [
    | inl inner ↦ (is.steps i inner).s_in
    | inr past ↦
        let at_last : length chain - 1 ≡ i = omega arith in
        subst (λ k. slice_index chain k < n) at_last is.last.s_in
  ]

  -- where the last side ends in the chain, it ends at its first number
  ends_at_first : (chain : List ℕ) (t : ℕ) → IsChain n Left chain t → IsIn chain t → slice_index chain 0 ≡ t
  ends_at_first chain t is found = elim (cases_eq found.place 0) [
    | inl first ↦ rw first at found.at
    | inr later ↦
        let before : found.place - 1 + 1 ≡ found.place = omega arith in
        let side : IsSideOf n Left (slice_index chain (found.place - 1)) t =
        subst (IsSideOf n Left (slice_index chain (found.place - 1))) found.at
        (subst (λ k. IsSideOf n Left (slice_index chain (found.place - 1)) (slice_index chain k)) before
        (is.steps (found.place - 1) (omega (arith, found.within)))) in
        absurd (is.distinct (found.place - 1) (length chain - 1) (omega (arith, found.within)) (omega (arith, is.some))
        (one_start n Left turning _ _ t side is.last))
  ]

  -- a chain whose last side ends at a new number is longer by that number
  longer_chain : (chain : List ℕ) (t u : ℕ) → IsChain n Left chain t → ((i : ℕ) → i < length chain → slice_index chain i ≢ t)
      → IsSideOf n Left t u → IsChain n Left (chain ++ t ∷ []) u
  longer_chain chain t u is new side = record {
    some = omega (arith, length_push chain t);
    distinct = more_once chain t is.distinct new;
    steps = λ i within. elim (cases_lt (i + 1) (length chain)) [
      | inl inner ↦ rw (more_at chain t i (omega arith), more_at chain t (i + 1) inner) (is.steps i inner)
      | inr past ↦
          let at_last : i ≡ length chain - 1 = omega (arith, length_push chain t) in
          let next : i + 1 ≡ length chain = omega (arith, length_push chain t, is.some) in
          rw (more_at chain t i (omega arith), next, more_last chain t, at_last) is.last
    ];
    last =
        let end : length chain ≡ length (chain ++ t ∷ []) - 1 = omega (arith, length_push chain t) in
        rw (← end, more_last chain t) side;
  }

  -- a chain goes on until it closes
  closed_chain : (k : ℕ) (chain : List ℕ) (t : ℕ) → n < k + length chain → IsChain n Left chain t
      → (round : List ℕ) × IsChain n Left round (slice_index round 0) × (slice_index round 0 ≡ slice_index chain 0)
  closed_chain zero chain t long is = absurd (omega (arith, few_numbers chain n (chain_below chain t is) is.distinct))
  closed_chain (suc k) chain t long is = elim (is_in_or_not chain t) [
    | inl found ↦ (chain, subst (IsChain n Left chain) (sym (ends_at_first chain t is found)) is, refl)
    | inr new ↦
        let (u, side) = end_starts n Left turning _ t is.last in
        let (round, closes, first) = closed_chain k (chain ++ t ∷ []) u (omega (arith, length_push chain t)) (longer_chain chain t u is new side) in
        (round, closes, first ∙ more_at chain t 0 is.some)
  ]

  -- from each start of a side there is a round
  pub closes_from : (s t : ℕ) → IsSideOf n Left s t
      → (round : List ℕ) × IsChain n Left round (slice_index round 0) × (slice_index round 0 ≡ s)
  closes_from s t side = closed_chain n (s ∷ []) t (omega arith) (record {
    some = omega arith;
    distinct = λ i j before within. absurd (omega arith);
    steps = λ i within. absurd (omega arith);
    last = side;
  })

-- the place after one in a list that is read round
abbrev pub place_after : List ℕ → ℕ → ℕ
place_after round i = if i + 1 == length round then 0 else i + 1

-- it is the next one,
pub after_inner : (round : List ℕ) (i : ℕ) → i + 1 < length round → place_after round i ≡ i + 1
after_inner round i inner = cond-false (i + 1 == length round) 0 (i + 1) (ne_eqb (i + 1) (length round) (λ same. omega arith))

-- or after the last one the first
pub after_last : (round : List ℕ) (i : ℕ) → i + 1 ≡ length round → place_after round i ≡ 0
after_last round i last = cond-true (i + 1 == length round) 0 (i + 1) (eq-eqb (i + 1) (length round) last)

module _ (n : ℕ) (Left : ℕ → ℕ → ℕ → Type 0) (turning : AreTurning n Left) where
  -- a point is to the left of each side that it does not touch, seen from the point too
  seen_from : (a b p : ℕ) → IsSideOf n Left a b → p < n → p ≢ a → p ≢ b → Left p a b
  seen_from a b p side within not_a not_b =
      let three : AreThree n a b p = record {
        a_in = side.s_in;
        b_in = side.t_in;
        c_in = within;
        a_b = side.different;
        b_c = apart_back p b not_b;
        a_c = apart_back p a not_a;
      } in
      turning.cyclic b p a (turned_three n a b p three) (turning.cyclic a b p three (side.left p within not_a not_b))

  module _ (round : List ℕ) (closes : IsChain n Left round (slice_index round 0)) where
    -- a side goes from each number of a closed chain to the one that follows
    side_after : (i : ℕ) → i < length round → IsSideOf n Left (slice_index round i) (slice_index round (place_after round i))
    side_after i within = elim (cases_lt (i + 1) (length round)) [
      | inl inner ↦ subst (λ k. IsSideOf n Left (slice_index round i) (slice_index round k)) (sym (after_inner round i inner))
          (closes.steps i inner)
      | inr past ↦
          let at_last : length round - 1 ≡ i = omega arith in
          subst (λ k. IsSideOf n Left (slice_index round i) (slice_index round k)) (sym (after_last round i (omega arith)))
          (subst (λ k. IsSideOf n Left (slice_index round k) (slice_index round 0)) at_last closes.last)
    ]

    -- and to the next place, under any name of it
    step_to : (i j : ℕ) → i + 1 ≡ j → j < length round → IsSideOf n Left (slice_index round i) (slice_index round j)
    step_to i j next within = subst (λ k. IsSideOf n Left (slice_index round i) (slice_index round k)) next (closes.steps i (omega arith))

    -- the round has two numbers or more
    two_at_least : 1 < length round
    two_at_least = elim (cases_lt 1 (length round)) [
      | inl more ↦ more
      | inr one ↦
          let at_first : length round - 1 ≡ 0 = omega arith in
          absurd (closes.last.different (rw at_first refl))
    ]

    -- ---- each start is in the closed chain

    module _ (p q : ℕ) (side : IsSideOf n Left p q) (missing : (i : ℕ) → i < length round → slice_index round i ≢ p) where
      -- a point that is not in it is none of its numbers,
      not_at : (i : ℕ) → i < length round → p ≢ slice_index round i
      not_at i within = apart_back (slice_index round i) p (missing i within)

      -- which are below n;
      in_list : (i : ℕ) → i < length round → slice_index round i < n
      in_list = chain_below n Left turning round (slice_index round 0) closes

      -- seen from the point, the first number is before each other one,
      all_after_first : (k : ℕ) → suc k < length round → Left p (slice_index round 0) (slice_index round (suc k))
      all_after_first zero within =
          seen_from _ _ p (closes.steps 0 within) side.s_in (not_at 0 (omega arith)) (not_at 1 within)
      all_after_first (suc k) within =
          let next = step_to (suc k) (suc (suc k)) (omega arith) within in
          let first_apart : slice_index round 0 ≢ slice_index round (suc k) = closes.distinct 0 (suc k) (omega arith) (omega arith) in
          let one : AreThree n p (slice_index round 0) (slice_index round (suc k)) = record {
            a_in = side.s_in;
            b_in = in_list 0 (omega arith);
            c_in = next.s_in;
            a_b = not_at 0 (omega arith);
            b_c = first_apart;
            a_c = not_at (suc k) (omega arith);
          } in
          let two : AreThree n p (slice_index round (suc k)) (slice_index round (suc (suc k))) = record {
            a_in = side.s_in;
            b_in = next.s_in;
            c_in = next.t_in;
            a_b = not_at (suc k) (omega arith);
            b_c = next.different;
            a_c = not_at (suc (suc k)) within;
          } in
          turning.ordered_at_start p q _ _ _ side one two (closes.distinct 0 (suc (suc k)) (omega arith) within)
          (all_after_first k (omega arith)) (seen_from _ _ p next side.s_in (not_at (suc k) (omega arith)) (not_at (suc (suc k)) within))

      -- and by the last side the last one is before the first
      none_missing : ⊥
      none_missing =
          let many : 1 < length round = two_at_least in
          let m : ℕ = length round - 1 in
          let at_last : suc (length round - 2) ≡ m = omega arith in
          let before : Left p (slice_index round 0) (slice_index round m) =
          subst (λ k. Left p (slice_index round 0) (slice_index round k)) at_last (all_after_first (length round - 2) (omega arith)) in
          let three : AreThree n p (slice_index round 0) (slice_index round m) = record {
            a_in = side.s_in;
            b_in = in_list 0 (omega arith);
            c_in = closes.last.s_in;
            a_b = not_at 0 (omega arith);
            b_c = closes.distinct 0 m (omega arith) (omega arith);
            a_c = not_at m (omega arith);
          } in
          turning.not_both p _ _ three before
          (seen_from _ _ p closes.last side.s_in (not_at m (omega arith)) (not_at 0 (omega arith)))

    -- so each start is in it,
    start_in : (p q : ℕ) → IsSideOf n Left p q → IsIn round p
    start_in p q side = elim (is_in_or_not round p) [
      | inl found ↦ found
      | inr missing ↦ absurd (none_missing p q side missing)
    ]

    -- where the end of its side follows,
    side_follows : (p q : ℕ) → IsSideOf n Left p q → Follows round p q
    side_follows p q side =
        let found = start_in p q side in
        let next : IsSideOf n Left p (slice_index round (place_after round found.place)) =
        subst (λ a. IsSideOf n Left a (slice_index round (place_after round found.place))) found.at (side_after found.place found.within) in
        record { i = found.place; in_list = found.within; at = found.at; next = one_end n Left turning p _ q next side }

    -- and what follows is a side's end
    following_side : (p q : ℕ) → Follows round p q → IsSideOf n Left p q
    following_side p q follows = subst (IsSideOf n Left p) follows.next
        (subst (λ a. IsSideOf n Left a (slice_index round (place_after round follows.i))) follows.at (side_after follows.i follows.in_list))

    -- so it is a round
    pub closed_is_round : IsRoundOf n Left round
    closed_is_round = record { distinct = closes.distinct; sides = λ p q. (side_follows p q, following_side p q) }
