-- Lists of the sides that come before a pair, one side after another.
-- One scan of the outer points finds the end of a side: what is not to the left of the end so far takes its place.
-- The chains of a table of a ring tell which points are inner.
-- The sides that the chains of a table of a ring tell are those of its points.
use Rattle.std.proofs.Common.{◌≡◌, ◌↔◌, inl, inr, ℕ, ◌+◌, ◌<◌, List, [], ◌∷◌, ◌++◌, length, get_or, slice_index, subst, sym, arith, ◌≢◌}
use Rattle.std.proofs.Common.{refl, ◌∙◌, below_more}
use Rattle.std.proofs.lemmas.Bool.{cases_lt, cases_eq}
use Rattle.std.proofs.lemmas.List.Elements.{Contains-append_left, Contains-push, Contains-push_cases, Contains-get_or}
use Rattle.std.specs.List.{Contains}
use Rattle.plane.proofs.Lists.{ordered_push}
use Rattle.plane.specs.Pairs.{IsPairBefore, pair_at}
use Rattle.plane.specs.Point.{Point}
use Rattle.rings.specs.Chain.{point_at}
use Rattle.hulls.proofs.Turning.{one_path}
use Rattle.hulls.specs.Inner.{IsInnerPoint}
use Rattle.hulls.specs.Joined.{IsOnPath}
use Rattle.exact_plane.specs.declared.direction.Direction.TheVariants.{Left}
use Rattle.rel_hull.proofs.Turned.{left_once}
use Rattle.rel_hull.proofs.Outer.{first_least, next_greater, none_between}
use Rattle.rel_hull.proofs.Paths.{length-points_of}
use Rattle.rel_hull.specs.Hull.{IsSide, IsTurnBetween}
use Rattle.rel_hull.specs.PathTurn.{IsPathTurn}
use Rattle.rel_hull.specs.Table.{Table, IsTableOf, chain_at, table_points, AreSides}
use Rattle.rel_hull.specs.Told.{AreOuterBelow, AreSidesBefore, IsOneEnd, IsToldSide, StartsTold, IsOnChain, IsOnSomeChain, ComesFirst}
use Rattle.rel_hull.specs.Told.{IsLeftOf}

-- a pair that comes before the row of a number is in one before that
in_row_before : (s : ℕ) (pair : ℕ × ℕ) → IsPairBefore pair (s, 0) → pair.0 < s
in_row_before s pair before = elim before [ inl row ↦ row | inr h ↦ let less = h.1 in absurd (omega arith) ]

module _ (table : Table) (outer : List ℕ) where
  -- a bound may be another one where no side comes between them
  pub sides_rebound : (b c : ℕ × ℕ) (pairs : List (ℕ × ℕ))
      → ((pair : ℕ × ℕ) → IsToldSide table outer pair → IsPairBefore pair b ↔ IsPairBefore pair c) → AreSidesBefore table outer b pairs
      → AreSidesBefore table outer c pairs
  sides_rebound b c pairs same are = record {
    told = are.told;
    before = λ pair inside. (same pair (are.told pair inside)).0 (are.before pair inside);
    all = λ pair told before. are.all pair told ((same pair told).1 before);
    sorted = are.sorted;
  }

  module _ (s : ℕ) (pairs : List (ℕ × ℕ)) (are : AreSidesBefore table outer (s, 0) pairs) where
    -- the one side that goes from a point is appended,
    pub sides_more : (t : ℕ) → IsOneEnd table outer s t → AreSidesBefore table outer (s + 1, 0) (pairs ++ (s, t) ∷ [])
    sides_more t end = record {
      told = λ pair inside. elim (Contains-push_cases pairs (s, t) pair inside) [
        | inl before ↦ are.told pair before
        | inr e ↦ subst (λ (q : ℕ × ℕ). IsToldSide table outer q) e end.told
      ];
      before = λ pair inside. elim (Contains-push_cases pairs (s, t) pair inside) [
        | inl before ↦ let less = in_row_before s pair (are.before pair before) in inl (omega arith)
        | inr e ↦ subst (λ (q : ℕ × ℕ). IsPairBefore q (s + 1, 0)) e (inl (omega arith))
      ];
      all = λ pair told before. elim (cases_lt pair.0 s) [
        | inl less ↦ Contains-append_left pairs ((s, t) ∷ []) pair (are.all pair told (inl less))
        | inr not ↦
            let within = in_row_before (s + 1) pair before in
            let row : s ≡ pair.0 = omega arith in
            let place = end.only pair.1 (subst (λ (n : ℕ). IsToldSide table outer (n, pair.1)) (sym row) told) in
            subst (λ (q : ℕ × ℕ). Contains (pairs ++ (s, t) ∷ []) q) (λ i. (row i, place i)) (Contains-push pairs (s, t))
      ];
      sorted = ordered_push IsPairBefore pairs (s, t) (0, 0) are.sorted (λ pair inside. inl (in_row_before s pair (are.before pair inside)));
    }

    -- and where none does, there is nothing to append
    pub sides_same : ¬ StartsTold table outer s → AreSidesBefore table outer (s + 1, 0) pairs
    sides_same none = record {
      told = are.told;
      before = λ pair inside. let less = in_row_before s pair (are.before pair inside) in inl (omega arith);
      all = λ pair told before. elim (cases_lt pair.0 s) [
        | inl less ↦ are.all pair told (inl less)
        | inr not ↦
            let within = in_row_before (s + 1) pair before in
            let row : pair.0 ≡ s = omega arith in
            absurd (none (pair.1, subst (λ (n : ℕ). IsToldSide table outer (n, pair.1)) row told))
      ];
      sorted = are.sorted;
    }

-- ---- the bounds of a loop over the outer points

module _ (table : Table) (n : ℕ) (outer : List ℕ) (are : AreOuterBelow table n outer) where
  -- rows of numbers between two outer points are empty
  pub next_row : (j : ℕ) → j < length outer → (pair : ℕ × ℕ) → IsToldSide table outer pair
      → IsPairBefore pair (slice_index outer j + 1, 0) ↔ IsPairBefore pair (get_or outer (j + 1) n, 0)
  next_row j at_j pair told =
      let greater = next_greater outer n are.below are.ascending j at_j in
      let none = none_between outer n are.below are.ascending j pair.0 at_j told.first in (
        λ before. elim before [ inl row ↦ inl (omega arith) | inr h ↦ let less = h.1 in absurd (omega arith) ],
        λ before. elim before [ inl row ↦ let most = none row in inl (omega arith) | inr h ↦ let less = h.1 in absurd (omega arith) ],
      )

  -- no side comes before the first row
  pub no_sides : AreSidesBefore table outer (get_or outer 0 n, 0) []
  no_sides = record {
    told = λ pair inside. let h = inside.1 in absurd (omega arith);
    before = λ pair inside. let h = inside.1 in absurd (omega arith);
    all = λ pair told before.
        let least = first_least outer n are.below are.ascending pair.0 told.first in
        elim before [ inl row ↦ absurd (omega arith) | inr h ↦ let less = h.1 in absurd (omega arith) ];
    sorted = λ k l h in_list. absurd (omega arith);
  }

  -- and all come before the row of n
  pub all_sides : (pairs : List (ℕ × ℕ)) → AreSidesBefore table outer (n, 0) pairs → (pair : ℕ × ℕ) → IsToldSide table outer pair
      → Contains pairs pair
  all_sides pairs sides pair told = sides.all pair told (inl (are.below pair.0 told.first))

module _ (ring : List Point) (table : Table) (is : IsTableOf ring table) where
  -- what is on the chain is on the path,
  on_path : (a b : ℕ) (x : Point) → a < table.count → b < table.count → IsOnChain (chain_at table a b) x
      → IsOnPath ring (point_at (table_points table) a) (point_at (table_points table) b) x
  on_path a b x at_a at_b on = record {
    path = chain_at table a b;
    is_path = is.paths a b at_a at_b;
    place = on.place;
    within = on.within;
    on = on.on;
  }

  -- and the other way round
  on_chain : (a b : ℕ) (x : Point) → a < table.count → b < table.count
      → IsOnPath ring (point_at (table_points table) a) (point_at (table_points table) b) x → IsOnChain (chain_at table a b) x
  on_chain a b x at_a at_b on =
      subst (λ (chain : List Point). IsOnChain chain x) (one_path ring _ _ on.path (chain_at table a b) on.is_path (is.paths a b at_a at_b))
      (record { place = on.place; within = on.within; on = on.on })

  -- a point that a chain passes is inner,
  pub inner_of_passed : (s : ℕ) → IsOnSomeChain table s → IsInnerPoint ring (table_points table) s
  inner_of_passed s passed =
      let from = passed.passes in
      record {
        a = passed.a;
        b = from.b;
        a_in_list = rw length-points_of passed.in_table;
        b_in_list = rw length-points_of from.in_table;
        different = λ e. from.not_a (sym e);
        not_a = passed.not_s;
        not_b = from.not_s;
        passes = on_path passed.a from.b (point_at (table_points table) s) passed.in_table from.in_table from.on;
      }

  -- and the other way round
  pub passed_of_inner : (s : ℕ) → IsInnerPoint ring (table_points table) s → IsOnSomeChain table s
  passed_of_inner s inner =
      let at_a = rw length-points_of at inner.a_in_list in
      let at_b = rw length-points_of at inner.b_in_list in
      record {
        a = inner.a;
        in_table = at_a;
        not_s = inner.not_a;
        passes = record {
          b = inner.b;
          in_table = at_b;
          not_a = λ e. inner.different (sym e);
          not_s = inner.not_b;
          on = on_chain inner.a inner.b (point_at (table_points table) s) at_a at_b inner.passes;
        };
      }

module _ (ring : List Point) (table : Table) (is : IsTableOf ring table) where
  -- chains that turn to the left are paths that do,
  turn_between : (s t u : ℕ) → s < table.count → t < table.count → u < table.count
      → IsPathTurn (chain_at table s t) (chain_at table s u) Left
      → IsTurnBetween ring (point_at (table_points table) s) (point_at (table_points table) t) (point_at (table_points table) u) Left
  turn_between s t u at_s at_t at_u turns = record {
    first = chain_at table s t;
    second = chain_at table s u;
    is_first = is.paths s t at_s at_t;
    is_second = is.paths s u at_s at_u;
    turns = turns;
  }

  -- and the other way round
  turn_of_chains : (s t u : ℕ) → s < table.count → t < table.count → u < table.count
      → IsTurnBetween ring (point_at (table_points table) s) (point_at (table_points table) t) (point_at (table_points table) u) Left
      → IsPathTurn (chain_at table s t) (chain_at table s u) Left
  turn_of_chains s t u at_s at_t at_u between =
      let first = one_path ring _ _ between.first (chain_at table s t) between.is_first (is.paths s t at_s at_t) in
      let second = one_path ring _ _ between.second (chain_at table s u) between.is_second (is.paths s u at_s at_u) in
      rw (first, second) at between.turns

  module _ (outer : List ℕ) (are : AreOuterBelow table table.count outer) where
    -- an outer point is one that isn't inner,
    not_inner : (s : ℕ) → Contains outer s → ¬ IsInnerPoint ring (table_points table) s
    not_inner s inside inner = are.none s inside (passed_of_inner ring table is s inner)

    -- and the other way round
    is_outer : (s : ℕ) → s < table.count → ¬ IsInnerPoint ring (table_points table) s → Contains outer s
    is_outer s at_s outside = are.all s at_s (λ passed. outside (inner_of_passed ring table is s passed))

    -- a pair that is told is a side,
    pub side_of_told : (pair : ℕ × ℕ) → IsToldSide table outer pair → IsSide ring (table_points table) pair.0 pair.1
    side_of_told pair told =
        let at_s = are.below pair.0 told.first in
        let at_t = are.below pair.1 told.second in
        record {
          s_in_list = rw length-points_of at_s;
          t_in_list = rw length-points_of at_t;
          different = told.different;
          s_outer = not_inner pair.0 told.first;
          t_outer = not_inner pair.1 told.second;
          left = λ u in_list not_s not_t outside.
              let at_u = rw length-points_of at in_list in
              turn_between pair.0 pair.1 u at_s at_t at_u (told.left u (is_outer u at_u outside) not_s not_t);
        }

    -- and the other way round
    pub told_of_side : (s t : ℕ) → IsSide ring (table_points table) s t → IsToldSide table outer (s, t)
    told_of_side s t side =
        let at_s = rw length-points_of at side.s_in_list in
        let at_t = rw length-points_of at side.t_in_list in
        record {
          first = is_outer s at_s side.s_outer;
          second = is_outer t at_t side.t_outer;
          different = side.different;
          left = λ u inside not_s not_t.
              let at_u = are.below u inside in
              turn_of_chains s t u at_s at_t at_u (side.left u (rw length-points_of at_u) not_s not_t (not_inner u inside));
        }

    -- so a list of all pairs that are told is that of the sides
    pub are_sides : (pairs : List (ℕ × ℕ)) → AreSidesBefore table outer (table.count, 0) pairs → AreSides ring (table_points table) pairs
    are_sides pairs sides = record {
      sides = λ k in_list. side_of_told (pair_at pairs k) (sides.told (pair_at pairs k) (Contains-get_or pairs k (0, 0) in_list));
      all = λ s t side. all_sides table table.count outer are pairs sides (s, t) (told_of_side s t side);
      sorted = sides.sorted;
    }

module _ (table : Table) (outer : List ℕ) (s end t : ℕ) where
  -- before the end of a side nothing comes,
  kept : (u : ℕ) → IsToldSide table outer (s, u) → end ≡ u → Contains outer t → ¬ ComesFirst table s end t
  kept u told same inside (not_s, inl none) = told.different (sym none ∙ same)
  kept u told same inside (not_s, inr not_left) = not_left (subst (λ (point : ℕ). IsLeftOf table s point t) (sym same) (told.left t inside))

  -- and it comes before each other point
  taken : (end ≢ s → Contains outer end) → IsToldSide table outer (s, t) → end ≢ t → ComesFirst table s end t
  taken other told apart = (
    λ e. told.different (sym e),
    elim (cases_eq end s) [
      | inl none ↦ inl none
      | inr some ↦ inr (λ left.
          left_once (chain_at table s end) (chain_at table s t) (left (λ e. told.different (sym e)) (λ e. apart (sym e)))
          (told.left end (other some) some apart))
    ],
  )

-- of the first points of the list, none but the end so far is the end of a side
abbrev pub IsEndOfFirst : Table → List ℕ → ℕ → ℕ → ℕ → Type 0
IsEndOfFirst table outer s n end = (k : ℕ) → k < n → IsToldSide table outer (s, slice_index outer k) → end ≡ slice_index outer k

module _ (table : Table) (outer : List ℕ) (s end n : ℕ) (inside : Contains outer (slice_index outer n)) (first : IsEndOfFirst table outer s n end)
  where
    -- what comes first takes the place of the end,
    pub end_taken : ComesFirst table s end (slice_index outer n) → IsEndOfFirst table outer s (n + 1) (slice_index outer n)
    end_taken comes = below_more (λ (k : ℕ). IsToldSide table outer (s, slice_index outer k) → slice_index outer n ≡ slice_index outer k) n
        (λ k h told. absurd (kept table outer s end (slice_index outer n) (slice_index outer k) told (first k h told) inside comes)) (λ _. refl)

    -- and else the end stays
    pub end_kept : (end ≢ s → Contains outer end) → ¬ ComesFirst table s end (slice_index outer n) → IsEndOfFirst table outer s (n + 1) end
    end_kept other not_first = below_more (λ (k : ℕ). IsToldSide table outer (s, slice_index outer k) → end ≡ slice_index outer k) n first
        (λ told. elim (cases_eq end (slice_index outer n)) [
          | inl same ↦ same
          | inr apart ↦ absurd (not_first (taken table outer s end (slice_index outer n) other told apart))
        ])
