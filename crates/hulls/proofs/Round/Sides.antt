-- A start of a side has one end, an end has one start, and each end is a start.
use Rattle.std.proofs.Common.{◌≡◌, ◌≢◌, ◌∙◌, inl, inr, sym, subst, ℕ, zero, suc, ◌<◌, ◌≤◌, arith}
use Rattle.std.proofs.lemmas.Bool.{cases_eq}
use Rattle.hulls.specs.Round.{AreThree, AreTurning, IsSideOf}

-- a number is not another one the other way round
pub apart_back : (a b : ℕ) → a ≢ b → b ≢ a
apart_back a b apart same = apart (sym same)

-- of three different numbers the first may come last,
pub turned_three : (n a b c : ℕ) → AreThree n a b c → AreThree n b c a
turned_three n a b c three = record {
  a_in = three.b_in;
  b_in = three.c_in;
  c_in = three.a_in;
  a_b = three.b_c;
  b_c = apart_back a c three.a_c;
  a_c = apart_back a b three.a_b;
}

-- and the last two may be swapped
swapped_three : (n a b c : ℕ) → AreThree n a b c → AreThree n a c b
swapped_three n a b c three = record {
  a_in = three.a_in;
  b_in = three.c_in;
  c_in = three.b_in;
  a_b = three.a_c;
  b_c = apart_back b c three.b_c;
  a_c = three.a_b;
}

-- seen from t, of the numbers below k none but t is before r
record IsFirstBelow (n : ℕ) (Left : ℕ → ℕ → ℕ → Type 0) (t k r : ℕ) : Type 0 where
  in_list : r < n
  different : t ≢ r
  left : (u : ℕ) → u < k → u ≢ t → u ≢ r → Left t r u

module _ (n : ℕ) (Left : ℕ → ℕ → ℕ → Type 0) (turning : AreTurning n Left) where
  -- a start has one end,
  pub one_end : (s t u : ℕ) → IsSideOf n Left s t → IsSideOf n Left s u → t ≡ u
  one_end s t u side other = elim (cases_eq t u) [
    | inl same ↦ same
    | inr apart ↦
        let three : AreThree n s t u = record {
          a_in = side.s_in;
          b_in = side.t_in;
          c_in = other.t_in;
          a_b = side.different;
          b_c = apart;
          a_c = other.different;
        } in
        absurd (turning.not_both s t u three (side.left u other.t_in (apart_back s u other.different) (apart_back t u apart))
        (other.left t side.t_in (apart_back s t side.different) apart))
  ]

  -- and an end one start
  pub one_start : (r s t : ℕ) → IsSideOf n Left r t → IsSideOf n Left s t → r ≡ s
  one_start r s t side other = elim (cases_eq r s) [
    | inl same ↦ same
    | inr apart ↦
        let three : AreThree n r t s = record {
          a_in = side.s_in;
          b_in = side.t_in;
          c_in = other.s_in;
          a_b = side.different;
          b_c = apart_back s t other.different;
          a_c = apart;
        } in
        let swapped : AreThree n s t r = turned_three n r s t (swapped_three n r t s three) in
        let one : Left r t s = side.left s other.s_in (apart_back r s apart) other.different in
        let two : Left s t r = other.left r side.s_in apart side.different in
        let turned : Left t s r = turning.cyclic r t s three one in
        let back : Left t r s = turning.cyclic s t r swapped two in
        let seen : AreThree n t s r = turned_three n r t s three in
        absurd (turning.not_both t s r seen turned back)
  ]

  -- ---- the end of a side starts one

  module _ (s t : ℕ) (side : IsSideOf n Left s t) where
    -- t and two others are three
    three_at : (a b : ℕ) → a < n → b < n → t ≢ a → a ≢ b → t ≢ b → AreThree n t a b
    three_at a b a_in b_in t_a a_b t_b = record { a_in = side.t_in; b_in = a_in; c_in = b_in; a_b = t_a; b_c = a_b; a_c = t_b }

    -- the first one stays it where the next number is not before it
    kept_first : (k r : ℕ) → IsFirstBelow n Left t k r → (k ≢ t → k ≢ r → Left t r k) → IsFirstBelow n Left t (suc k) r
    kept_first k r first after = record {
      in_list = first.in_list;
      different = first.different;
      left = λ u below not_t not_r. elim (cases_eq u k) [
        | inl same ↦ subst (Left t r) (sym same) (after (λ at_t. not_t (same ∙ at_t)) (λ at_r. not_r (same ∙ at_r)))
        | inr apart ↦ first.left u (omega arith) not_t not_r
      ];
    }

    -- and else the next number is it
    new_first : (k r : ℕ) → IsFirstBelow n Left t k r → AreThree n t k r → Left t k r → IsFirstBelow n Left t (suc k) k
    new_first k r first three before = record {
      in_list = three.b_in;
      different = three.a_b;
      left = λ u below not_t not_k. elim (cases_eq u r) [
        | inl same ↦ subst (Left t k) (sym same) before
        | inr apart ↦
            let u_in : u < n = omega (arith, three.b_in) in
            let next = three_at r u first.in_list u_in first.different (apart_back u r apart) (apart_back u t not_t) in
            turning.ordered_at_end s t k r u side three next (apart_back u k not_k) before (first.left u (omega arith) not_t apart)
      ];
    }

    -- so where there is a first one below k, there is one below k + 1,
    more_below : (k r : ℕ) → k < n → IsFirstBelow n Left t k r → (q : ℕ) × IsFirstBelow n Left t (suc k) q
    more_below k r within first = elim (cases_eq k t) [
      | inl at_t ↦ (r, kept_first k r first (λ not_t not_r. absurd (not_t at_t)))
      | inr not_t ↦ elim (cases_eq k r) [
        | inl at_r ↦ (r, kept_first k r first (λ _ not_r. absurd (not_r at_r)))
        | inr not_r ↦
            let three = three_at k r within first.in_list (apart_back k t not_t) not_r first.different in
            elim (turning.one_way t k r three) [
              | inl before ↦ (k, new_first k r first three before)
              | inr after ↦ (r, kept_first k r first (λ _ _. after))
            ]
      ]
    ]

    -- from the start of the side below 0 on,
    first_below : (k : ℕ) → k ≤ n → (r : ℕ) × IsFirstBelow n Left t k r
    first_below zero within = (
      s,
      record { in_list = side.s_in; different = apart_back s t side.different; left = λ u below. absurd (omega arith) },
    )
    first_below (suc k) within =
        let (r, first) = first_below k (omega arith) in
        more_below k r (omega arith) first

    -- and a side goes there
    pub end_starts : (r : ℕ) × IsSideOf n Left t r
    end_starts =
        let (r, first) = first_below n (omega arith) in
        (r, record { s_in = side.t_in; t_in = first.in_list; different = first.different; left = first.left })
