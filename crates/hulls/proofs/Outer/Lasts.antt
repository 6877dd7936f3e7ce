-- Of some numbers below a bound there is a least or none, and where they stand in one order there is a last.
use Rattle.std.proofs.Common.{◌≢◌, ◌⊎◌, inl, inr, sym, subst, ℕ, zero, suc, ◌<◌, arith}
use Rattle.std.proofs.lemmas.Bool.{cases_eq}

-- of the numbers below n there is a least that is such, or none is
pub some_or_none : (Is : ℕ → Type 0) (n : ℕ) → ((u : ℕ) → u < n → Is u ⊎ (¬ Is u))
    → ((u : ℕ) × (u < n) × Is u × ((v : ℕ) → v < u → ¬ Is v)) ⊎ ((u : ℕ) → u < n → ¬ Is u)
some_or_none Is zero decide = inr (λ u h. absurd (omega (arith, h)))
some_or_none Is (suc n) decide = elim (some_or_none Is n (λ u h. decide u (omega (arith, h)))) [
  | inl found ↦ inl (found.0, omega (arith, found.1), found.2, found.3)
  | inr none ↦ elim (decide n (omega arith)) [
    | inl is ↦ inl (n, omega arith, is, none)
    | inr not ↦ inr (λ u h. elim (cases_eq u n) [
      | inl e ↦ subst (λ z. ¬ Is z) (sym e) not
      | inr other ↦ none u (omega (arith, h))
    ])
  ]
]

-- of some numbers below n, b is one, and it comes after each other
pub record IsLast (Is : ℕ → Type 0) (After : ℕ → ℕ → Type 0) (n b : ℕ) : Type 0 where
  pub below : b < n
  pub is : Is b
  pub last : (u : ℕ) → u < n → Is u → u ≢ b → After u b

module _ (Is : ℕ → Type 0) (decide : (u : ℕ) → Is u ⊎ (¬ Is u)) (After : ℕ → ℕ → Type 0)
    (one : (u v : ℕ) → Is u → Is v → u ≢ v → After u v ⊎ After v u)
    (follows : (u v w : ℕ) → Is u → Is v → Is w → u ≢ w → After u v → After v w → After u w) where
  -- none of the first n numbers is such a one, or they have a last
  last_or_none : (n : ℕ) → ((b : ℕ) × IsLast Is After n b) ⊎ ((u : ℕ) → u < n → ¬ Is u)
  last_or_none zero = inr (λ u h. absurd (omega (arith, h)))
  last_or_none (suc n) = elim (decide n) [
    | inr not ↦ elim (last_or_none n) [
      | inr none ↦ inr (λ u h. elim (cases_eq u n) [
        | inl e ↦ subst (λ z. ¬ Is z) (sym e) not
        | inr other ↦ none u (omega (arith, h))
      ])
      | inl found ↦
          let b = found.0 in
          let at = found.1 in
          let below = at.below in
          inl (
            b,
            record {
              below = omega (arith, below);
              is = at.is;
              last = λ u h is differ. elim (cases_eq u n) [
                | inl e ↦ absurd (not (subst Is e is))
                | inr other ↦ at.last u (omega (arith, h)) is differ
              ];
            },
          )
    ]
    | inl is_n ↦ elim (last_or_none n) [
      | inr none ↦ inl (
        n,
        record { below = omega arith; is = is_n; last = λ u h is differ. absurd (none u (omega (arith, h)) is) },
      )
      | inl found ↦
          let b = found.0 in
          let at = found.1 in
          let below = at.below in
          elim (one b n at.is is_n (λ e. omega (arith, e))) [
            | inl after ↦ inl (
              n,
              record {
                below = omega arith;
                is = is_n;
                last = λ u h is differ. elim (cases_eq u b) [
                  | inl e ↦ subst (λ z. After z n) (sym e) after
                  | inr other ↦ follows u b n is at.is is_n differ (at.last u (omega (arith, h)) is other) after
                ];
              },
            )
            | inr before ↦ inl (
              b,
              record {
                below = omega (arith, below);
                is = at.is;
                last = λ u h is differ. elim (cases_eq u n) [
                  | inl e ↦ subst (λ z. After z b) (sym e) before
                  | inr other ↦ at.last u (omega (arith, h)) is differ
                ];
              },
            )
          ]
    ]
  ]

  -- so where there is one there is a last
  pub last_of_some : (n u : ℕ) → u < n → Is u → (b : ℕ) × IsLast Is After n b
  last_of_some n u h is = elim (last_or_none n) [ inl found ↦ found | inr none ↦ absurd (none u h is) ]
