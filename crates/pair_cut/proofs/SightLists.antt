-- Lists of the pairs of vertices that see each other, one pair after another.
use Rattle.std.proofs.Common.{◌≡◌, ◌⊎◌, ◌↔◌, inl, inr, refl, sym, subst, ℕ, ◌+◌, ◌<◌, ◌≤◌, List, [], ◌∷◌, ◌++◌, length, arith}
use Rattle.std.proofs.lemmas.Bool.{cases_eq}
use Rattle.std.proofs.lemmas.List.Elements.{Contains-append_left, Contains-push, Contains-push_cases}
use Rattle.std.specs.List.{Contains}
use Rattle.plane.proofs.Lists.{ordered_push}
use Rattle.plane.specs.Pairs.{IsPairBefore}
use Rattle.plane.specs.Point.{Point}
use Rattle.pair_cut.proofs.SightPaths.{first_of_sees, sees_first}
use Rattle.pair_cut.specs.Pairs.{AreSights, IsMadeFor, IsSight}
use Rattle.pair_cut.specs.Sights.{AreToldBefore, IsSightTold}

-- before the next pair of a row comes what is before a pair, and that
next_in_row : (i j : ℕ) (p : ℕ × ℕ) → IsPairBefore p (i, j + 1) ↔ (IsPairBefore p (i, j) ⊎ (p ≡ (i, j)))
next_in_row i j p = (
  λ before. elim before [
    | inl less ↦ inl (inl less)
    | inr h ↦
        let below = h.1 in
        elim (cases_eq p.1 j) [ inl e ↦ let row = h.0 in inr (λ t. (row t, e t)) | inr other ↦ inl (inr (h.0, omega arith)) ]
  ],
  λ cases. elim cases [
    | inl before ↦ elim before [ inl less ↦ inl less | inr h ↦ let less = h.1 in inr (h.0, omega arith) ]
    | inr e ↦ subst (λ (q : ℕ × ℕ). IsPairBefore q (i, j + 1)) (sym e) (inr (refl, omega arith))
  ],
)

module _ (before : List (List ℕ)) where
  -- a bound may be another one where no such pair comes between them
  rebound : (b c : ℕ × ℕ) (pairs : List (ℕ × ℕ)) → ((p : ℕ × ℕ) → IsSightTold before p → IsPairBefore p b ↔ IsPairBefore p c)
      → AreToldBefore before b pairs → AreToldBefore before c pairs
  rebound b c pairs same are = record {
    told = are.told;
    earlier = λ p inside. (same p (are.told p inside)).0 (are.earlier p inside);
    all = λ p told earlier. are.all p told ((same p told).1 earlier);
    sorted = are.sorted;
  }

  module _ (i j : ℕ) (pairs : List (ℕ × ℕ)) (are : AreToldBefore before (i, j) pairs) where
    -- one more is appended,
    pub told_push : IsSightTold before (i, j) → AreToldBefore before (i, j + 1) (pairs ++ (i, j) ∷ [])
    told_push is = record {
      told = λ p inside. elim (Contains-push_cases pairs (i, j) p inside) [
        | inl earlier ↦ are.told p earlier
        | inr e ↦ subst (λ (q : ℕ × ℕ). IsSightTold before q) e is
      ];
      earlier = λ p inside. elim (Contains-push_cases pairs (i, j) p inside) [
        | inl earlier ↦ (next_in_row i j p).1 (inl (are.earlier p earlier))
        | inr e ↦ (next_in_row i j p).1 (inr (sym e))
      ];
      all = λ p told earlier. elim ((next_in_row i j p).0 earlier) [
        | inl less ↦ Contains-append_left pairs ((i, j) ∷ []) p (are.all p told less)
        | inr e ↦ subst (λ (q : ℕ × ℕ). Contains (pairs ++ (i, j) ∷ []) q) (sym e) (Contains-push pairs (i, j))
      ];
      sorted = ordered_push IsPairBefore pairs (i, j) (0, 0) are.sorted are.earlier;
    }

    -- and another pair is left out
    pub told_skip : ¬ IsSightTold before (i, j) → AreToldBefore before (i, j + 1) pairs
    told_skip not = rebound (i, j) (i, j + 1) pairs
        (λ p told. (
          λ earlier. (next_in_row i j p).1 (inl earlier),
          λ earlier. elim ((next_in_row i j p).0 earlier) [
            | inl less ↦ less
            | inr e ↦ absurd (not (subst (λ (q : ℕ × ℕ). IsSightTold before q) e told))
          ],
        )) are

  -- a row begins after its own vertex,
  pub row_begins : (i : ℕ) (pairs : List (ℕ × ℕ)) → AreToldBefore before (i, 0) pairs → AreToldBefore before (i, i + 1) pairs
  row_begins i pairs = rebound (i, 0) (i, i + 1) pairs
      (λ p told. (
        λ earlier. elim earlier [ inl less ↦ inl less | inr h ↦ let none = h.1 in absurd (omega arith) ],
        λ earlier. elim earlier [ inl less ↦ inl less | inr h ↦ let row = h.0 in let less = h.1 in absurd (omega (arith, told.order)) ],
      ))

  -- and ends where the next one begins
  pub row_ends : (i j : ℕ) (pairs : List (ℕ × ℕ)) → length before ≤ j → AreToldBefore before (i, j) pairs → AreToldBefore before (i + 1, 0) pairs
  row_ends i j pairs last = rebound (i, j) (i + 1, 0) pairs
      (λ p told. (
        λ earlier. elim earlier [ inl less ↦ inl (omega arith) | inr h ↦ let row = h.0 in inl (omega arith) ],
        λ earlier. elim earlier [
          | inl less ↦ elim (cases_eq p.0 i) [ inl e ↦ inr (e, omega (arith, told.in_table)) | inr other ↦ inl (omega arith) ]
          | inr h ↦ let none = h.1 in absurd (omega arith)
        ],
      ))

  -- ---- in a ring

  module _ (ring : List Point) (made : IsMadeFor ring before) where
    -- such pairs are those that see each other,
    told_iff_sight : (i j : ℕ) → IsSightTold before (i, j) ↔ IsSight ring i j
    told_iff_sight i j = (
      λ told.
          let k : j < length ring = omega (arith, told.in_table, made.rows) in
          record {
            order = told.order;
            in_ring = k;
            sees = sees_first ring before made i j (omega (arith, told.order)) k (λ e. omega (arith, e, told.order)) told.first;
          },
      λ sight. record {
        order = sight.order;
        in_table = omega (arith, sight.in_ring, made.rows);
        first = first_of_sees ring before made i j (omega (arith, sight.order, sight.in_ring)) sight.in_ring
            (λ e. omega (arith, e, sight.order)) sight.sees;
      },
    )

    -- so after all rows these are all of them
    pub sights_of_told : (n : ℕ) (pairs : List (ℕ × ℕ)) → length before ≤ n → AreToldBefore before (n, 0) pairs → AreSights ring pairs
    sights_of_told n pairs last are = record {
      exactly = λ i j. (
        λ inside. (told_iff_sight i j).0 (are.told (i, j) inside),
        λ sight.
            let told = (told_iff_sight i j).1 sight in
            are.all (i, j) told (inl (omega (arith, told.order, told.in_table))),
      );
      sorted = are.sorted;
    }
