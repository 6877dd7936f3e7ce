-- Sums over lists of triangles and of gaps, after an edit.
-- After the last event: the triangles fit the ring.
-- The balance before the next event, from that before this one, by what the sums gain.
use Rattle.std.proofs.Common.{◌≡◌, sym, ap, ◌∙◌, ℕ, suc, ◌+◌, ◌<◌, ℤ, ◌+ℤ◌, ◌-ℤ◌, List, [], ◌∷◌, ◌++◌, length, take, drop, set, arith, inl}
use Rattle.std.proofs.Common.{inr, refl, subst, ◌≤◌, pos, negsuc, ◌*ℤ◌, neg_ℤ, ◌-◌}
use Rattle.std.proofs.lemmas.Int.{ints}
use Rattle.std.proofs.lemmas.List.{drop_more, set_split, take-append-drop}
use Rattle.std.specs.List.{insert, remove, range_with_len}
use Rattle.std.specs.Prelude.{slice_index}
use Rattle.std.proofs.lemmas.Bool.{cases_lt}
use Rattle.integer_algebra.proofs.Laws.{mul-neg, neg-mul}
use Rattle.plane.specs.Point.{Point}
use Rattle.rings.proofs.Sweeps.{next_below, rank_below, ranks_are}
use Rattle.rings.specs.Events.{AreEvents, first_rank, next, last_rank}
use Rattle.rings.specs.Orientation.{IsCounterclockwise, doubled_area}
use Rattle.rings.specs.Simple.{IsSimple}
use Rattle.meshes.proofs.Boundaries.{fits_bounded}
use Rattle.meshes.proofs.Sides.{piece_points_all}
use Rattle.meshes.proofs.Triangulations.{ring_is_piece}
use Rattle.meshes.specs.Boundary.{IsOdd, sum_sides, HaveBoundary, sum_round}
use Rattle.meshes.specs.Fits.{Fits, IsTriOf}
use Rattle.meshes.specs.Side.{tri_at}
use Rattle.meshes.specs.declared.tri.Tri.{Tri}
use Rattle.ring_laws.proofs.Ears.{IsUnit}
use Rattle.sweep_tri.proofs.Balance.Area.{area_by, area_odd, area_round, triangles_not_negative}
use Rattle.sweep_tri.proofs.Balance.EdgeSums.{sums_none, around_step, edges_round, growth_at, growth_odd, sums_agree, sums_opposite}
use Rattle.sweep_tri.proofs.Balance.EdgeSums.{after, before, before_differs, before_is_edge, begins_at, edge_before}
use Rattle.sweep_tri.proofs.Balance.EdgeSums.{event, event_below, next_begins, placed, placed_other, placed_same, previous_begins}
use Rattle.sweep_tri.proofs.Balance.EdgeSums.{signs_after, sums_placed}
use Rattle.sweep_tri.specs.Gaps.{gap_at, no_gap}
use Rattle.sweep_tri.specs.Passing.{AreBeside}
use Rattle.sweep_tri.specs.Sums.{sum_gap, sum_gaps, AreBalanced, sum_edges}
use Rattle.sweep_tri.specs.declared.gap.Gap.{Gap}

module _ (φ : ℕ → ℕ → ℤ) where
  gaps-append : (gs hs : List Gap) → sum_gaps φ (gs ++ hs) ≡ sum_gaps φ gs +ℤ sum_gaps φ hs
  gaps-append [] hs = omega (arith, ints)
  gaps-append (g ∷ gs) hs = omega (arith, ints, gaps-append gs hs)

  module _ (gaps : List Gap) (j : ℕ) where
    -- with one more
    pub gaps_inserted : (g : Gap) → sum_gaps φ (insert gaps j g) ≡ sum_gaps φ gaps +ℤ sum_gap φ g
    gaps_inserted g =
        let all : sum_gaps φ (take j gaps ++ drop j gaps) ≡ sum_gaps φ gaps = ap (sum_gaps φ) (take-append-drop j gaps) in
        omega (arith, ints, gaps-append (take j gaps) (g ∷ drop j gaps), gaps-append (take j gaps) (drop j gaps), all)

    -- without one
    pub gaps_removed : j < length gaps → sum_gaps φ (remove gaps j) ≡ sum_gaps φ gaps -ℤ sum_gap φ (gap_at gaps j)
    gaps_removed within =
        let all : sum_gaps φ (take j gaps ++ drop j gaps) ≡ sum_gaps φ gaps = ap (sum_gaps φ) (take-append-drop j gaps) in
        let after : suc j ≡ j + 1 = omega arith in
        let rest : drop j gaps ≡ gap_at gaps j ∷ drop (suc j) gaps =
        drop_more gaps j no_gap within ∙ ap (λ n. gap_at gaps j ∷ drop n gaps) (sym after) in
        omega (arith, ints, gaps-append (take j gaps) (drop (suc j) gaps), gaps-append (take j gaps) (drop j gaps), all, ap (sum_gaps φ) rest)

    -- with another in its place
    pub gaps_replaced : (g : Gap) → j < length gaps → sum_gaps φ (set gaps j g) ≡ (sum_gaps φ gaps -ℤ sum_gap φ (gap_at gaps j)) +ℤ sum_gap φ g
    gaps_replaced g within =
        let cut : sum_gaps φ (set gaps j g) ≡ sum_gaps φ (take j gaps ++ g ∷ drop (suc j) gaps) = ap (sum_gaps φ) (set_split gaps j g within) in
        let with_other = gaps-append (take j gaps) (g ∷ drop (suc j) gaps) in
        let without = gaps-append (take j gaps) (drop (suc j) gaps) in
        omega (arith, ints, cut, with_other, without, gaps_removed within)

-- the sum over the triangles and the open regions
abbrev pub total : (ℕ → ℕ → ℤ) → List Gap → List Tri → ℤ
total φ gaps tris = sum_sides φ tris +ℤ sum_gaps φ gaps

-- before the first event there is nothing, and no edge has begun
pub balanced_at_start : (ranks : List ℕ) → AreBalanced ranks 0 [] []
balanced_at_start ranks = record {
  signs = λ e. pos 0;
  are_signs = record { begun = λ e h before. absurd (omega (arith, before)); to_come = λ e h from. refl };
  balance = λ φ odd. sym (sums_none φ (length ranks) (length ranks));
}

-- the sums gain this from one state to the next
abbrev pub Gains : List Gap → List Tri → List Gap → List Tri → ((ℕ → ℕ → ℤ) → ℤ) → Type 0
Gains gaps tris others more gain = (φ : ℕ → ℕ → ℤ) → IsOdd φ → total φ others more ≡ total φ gaps tris +ℤ gain φ

opposite_unit : (s : ℤ) → IsUnit s → IsUnit (neg_ℤ s)
opposite_unit s (inl is) = inr (omega (arith, ints))
opposite_unit s (inr is) = inl (omega (arith, ints))

-- a value and its opposite, with opposite signs
turned : (s x y : ℤ) → y ≡ neg_ℤ x → neg_ℤ s *ℤ y ≡ s *ℤ x
turned s x y is = omega (arith, ints, ap (λ z. neg_ℤ s *ℤ z) is, mul-neg (neg_ℤ s) x, neg-mul s x)

module _ (corners : List Point) (order ranks : List ℕ) (are : AreEvents corners order ranks) (three : 3 ≤ length corners)
    (k : ℕ) (within : k < length corners) (gaps others : List Gap) (tris more : List Tri) (balanced : AreBalanced ranks k gaps tris) where
  abbrev v : ℕ
  v = event corners order ranks are three k within

  abbrev a : ℕ
  a = before corners order ranks are three k within

  abbrev b : ℕ
  b = after corners order ranks are three k within

  -- where no edge begins, the sums stay
  pub none_begins : slice_index ranks a ≤ k → slice_index ranks b ≤ k → Gains gaps tris others more (λ φ. pos 0)
      → AreBalanced ranks (k + 1) others more
  none_begins not_a not_b gains = record {
    signs = balanced.signs;
    are_signs =
        signs_after corners order ranks are three k within balanced.signs balanced.signs balanced.are_signs (λ e h other. refl)
        (λ e h is. elim (begins_at corners order ranks are three k within e h is) [
          | inl r ↦ absurd (omega (arith, r.1, not_b))
          | inr r ↦ absurd (omega (arith, r.1, not_a))
        ]);
    balance = λ φ odd. omega (arith, ints, gains φ odd, balanced.balance φ odd);
  }

  -- where one does, they gain its value, with a sign
  one_edge : (e : ℕ) → e < length ranks → first_rank ranks e ≡ k → ((d : ℕ) → d < length ranks → first_rank ranks d ≡ k → d ≡ e) → (s : ℤ) → IsUnit s
      → Gains gaps tris others more (λ φ. s *ℤ φ e (next (length ranks) e)) → AreBalanced ranks (k + 1) others more
  one_edge e h begins only s unit gains =
      let signs = placed balanced.signs e s in
      record {
        signs = signs;
        are_signs =
            signs_after corners order ranks are three k within balanced.signs signs balanced.are_signs
            (λ d below other. placed_other balanced.signs e s d (λ is. other (ap (first_rank ranks) is ∙ begins)))
            (λ d below is. subst IsUnit (sym (ap signs (only d below is) ∙ placed_same balanced.signs e s)) unit);
        balance = λ φ odd.
            let none = balanced.are_signs.to_come e h (omega (arith, begins)) in
            omega (arith, ints, gains φ odd, balanced.balance φ odd, sums_placed φ (length ranks) balanced.signs e s none (length ranks) h);
      }

  -- that to the later of the vertices beside it
  pub one_begins : (w u : ℕ) → AreBeside (length ranks) v w u → k < slice_index ranks w → slice_index ranks u ≤ k → (s : ℤ) → IsUnit s
      → Gains gaps tris others more (λ φ. s *ℤ φ v w) → AreBalanced ranks (k + 1) others more
  one_begins w u (inl (is_before, is_after)) later not s unit gains =
      let beyond : k < slice_index ranks a = omega (arith, later, ap (slice_index ranks) is_before) in
      let none : slice_index ranks b ≤ k = omega (arith, not, ap (slice_index ranks) is_after) in
      one_edge a (before_is_edge corners order ranks are three k within) (previous_begins corners order ranks are three k within beyond)
      (only_before none) (neg_ℤ s) (opposite_unit s unit)
      (λ φ odd.
      let back : φ a (next (length ranks) a) ≡ neg_ℤ (φ v w) =
      ap (φ a) (edge_before corners order ranks are three k within) ∙ odd v a ∙ ap (λ i. neg_ℤ (φ v i)) (sym is_before) in
      omega (arith, ints, gains φ odd, turned s (φ v w) (φ a (next (length ranks) a)) back))
    where
      only_before : slice_index ranks b ≤ k → (d : ℕ) → d < length ranks → first_rank ranks d ≡ k → d ≡ a
      only_before none d below is = elim (begins_at corners order ranks are three k within d below is) [
        | inl r ↦ absurd (omega (arith, r.1, none))
        | inr r ↦ r.0
      ]
  one_begins w u (inr (is_after, is_before)) later not s unit gains =
      let beyond : k < slice_index ranks b = omega (arith, later, ap (slice_index ranks) is_after) in
      let none : slice_index ranks a ≤ k = omega (arith, not, ap (slice_index ranks) is_before) in
      one_edge v (event_below corners order ranks are three k within) (next_begins corners order ranks are three k within beyond)
      (only_after none) s unit
      (λ φ odd. omega (arith, ints, gains φ odd, ap (λ i. s *ℤ φ v i) is_after))
    where
      only_after : slice_index ranks a ≤ k → (d : ℕ) → d < length ranks → first_rank ranks d ≡ k → d ≡ v
      only_after none d below is = elim (begins_at corners order ranks are three k within d below is) [
        | inl r ↦ r.0
        | inr r ↦ absurd (omega (arith, r.1, none))
      ]

  -- where two do, one of them comes with the opposite sign of the other, as it is read from v
  two_edges : k < slice_index ranks a → k < slice_index ranks b → (s : ℤ) → IsUnit s
      → Gains gaps tris others more (λ φ. s *ℤ φ v b +ℤ s *ℤ φ a v) → AreBalanced ranks (k + 1) others more
  two_edges later_a later_b s unit gains =
      let one = placed balanced.signs v s in
      let signs = placed one a s in
      let a_edge = before_is_edge corners order ranks are three k within in
      let v_edge = event_below corners order ranks are three k within in
      let a_begins = previous_begins corners order ranks are three k within later_a in
      let v_begins = next_begins corners order ranks are three k within later_b in
      let differ = before_differs corners order ranks are three k within in
      let at_a : signs a ≡ s = placed_same one a s in
      let at_v : signs v ≡ s = placed_other one a s v (λ is. differ (sym is)) ∙ placed_same balanced.signs v s in
      record {
        signs = signs;
        are_signs =
            signs_after corners order ranks are three k within balanced.signs signs balanced.are_signs
            (λ d below other.
            placed_other one a s d (λ is. other (ap (first_rank ranks) is ∙ a_begins))
            ∙ placed_other balanced.signs v s d (λ is. other (ap (first_rank ranks) is ∙ v_begins)))
            (λ d below is. elim (begins_at corners order ranks are three k within d below is) [
              | inl r ↦ subst IsUnit (sym (ap signs r.0 ∙ at_v)) unit
              | inr r ↦ subst IsUnit (sym (ap signs r.0 ∙ at_a)) unit
            ]);
        balance = λ φ odd.
            let none_v = balanced.are_signs.to_come v v_edge (omega (arith, v_begins)) in
            let none_a = placed_other balanced.signs v s a differ ∙ balanced.are_signs.to_come a a_edge (omega (arith, a_begins)) in
            let to = ap (λ i. s *ℤ φ a i) (edge_before corners order ranks are three k within) in
            let with_v = sums_placed φ (length ranks) balanced.signs v s none_v (length ranks) v_edge in
            let with_a = sums_placed φ (length ranks) one a s none_a (length ranks) a_edge in
            omega (arith, ints, gains φ odd, balanced.balance φ odd, to, with_v, with_a);
      }

  -- those to both vertices beside it
  pub two_begin : (w u : ℕ) → AreBeside (length ranks) v w u → k < slice_index ranks w → k < slice_index ranks u
      → Gains gaps tris others more (λ φ. φ v w -ℤ φ v u) → AreBalanced ranks (k + 1) others more
  two_begin w u (inl (is_before, is_after)) later_w later_u gains =
      let later_a : k < slice_index ranks a = omega (arith, later_w, ap (slice_index ranks) is_before) in
      let later_b : k < slice_index ranks b = omega (arith, later_u, ap (slice_index ranks) is_after) in
      two_edges later_a later_b (negsuc 0) (inr refl)
      (λ φ odd. omega (arith, ints, gains φ odd, ap (φ v) is_before, ap (φ v) is_after, odd v a))
  two_begin w u (inr (is_after, is_before)) later_w later_u gains =
      let later_a : k < slice_index ranks a = omega (arith, later_u, ap (slice_index ranks) is_before) in
      let later_b : k < slice_index ranks b = omega (arith, later_w, ap (slice_index ranks) is_after) in
      two_edges later_a later_b (pos 1) (inl refl)
      (λ φ odd. omega (arith, ints, gains φ odd, ap (φ v) is_before, ap (φ v) is_after, odd v a))

-- the sides of triangles do not grow
sides_growth : (m : ℕ) (tris : List Tri) → sum_sides (growth_at m) tris ≡ pos 0
sides_growth m [] = omega (arith, ints)
sides_growth m (t ∷ ts) = omega (arith, ints, sides_growth m ts)

module _ (corners : List Point) (order ranks : List ℕ) (are : AreEvents corners order ranks) (three : 3 ≤ length corners) where
  -- the ends of an edge come before the end
  ends_below : (e : ℕ) → e < length ranks → (first_rank ranks e < length corners) × (last_rank ranks e < length corners)
  ends_below e h =
      let here = rank_below corners order ranks are three e h in
      let there = rank_below corners order ranks are three (next (length ranks) e) (next_below (length ranks) e h) in
      elim (ranks_are corners order ranks are three e h) [
        | inl k ↦ (omega (arith, here, k.0), omega (arith, there, k.1))
        | inr k ↦ (omega (arith, there, k.0), omega (arith, here, k.1))
      ]

  module _ (tris : List Tri) (balanced : AreBalanced ranks (length corners) [] tris) where
    -- each edge has the sign of the last one
    one_sign : (e : ℕ) → e < length ranks → balanced.signs e ≡ balanced.signs (length ranks - 1)
    one_sign e h = elim (cases_lt (e + 1) (length ranks)) [
      | inl inside ↦
          let end : (length ranks - 1) + 1 ≡ length ranks = omega (arith, h) in
          let around = around_step (length ranks) balanced.signs e inside (length ranks - 1) end in
          let balance = balanced.balance (growth_at e) (growth_odd e) in
          omega (arith, ints, around, balance, sides_growth e tris)
      | inr last ↦ ap balanced.signs (let is : e ≡ length ranks - 1 = omega (arith, h, last) in is)
    ]

    abbrev all : List ℕ
    all = range_with_len 0 (length corners)

    -- the sum over all edges is that round the ring
    round_ring : (φ : ℕ → ℕ → ℤ) → sum_edges φ (λ e. pos 1) (length ranks) (length ranks) ≡ sum_round φ all
    round_ring φ =
        let size = are.all_ranks in
        edges_round φ (length ranks) (omega (arith, three, size)) ∙ ap (λ k. sum_round φ (range_with_len 0 k)) size

    -- where the sign is 1, the sides cancel to the boundary
    boundary_left : balanced.signs (length ranks - 1) ≡ pos 1 → HaveBoundary all tris
    boundary_left one φ odd =
        let same = sums_agree φ (length ranks) (λ e. pos 1) balanced.signs (length ranks) (λ e h. one_sign e h ∙ one) in
        omega (arith, ints, balanced.balance φ odd, same, round_ring φ)

    -- and it is not -1, since counterclockwise triangles have areas that are not negative
    not_opposite : IsCounterclockwise corners → ((t : ℕ) → t < length tris → IsTriOf corners all (tri_at tris t))
        → ¬ (balanced.signs (length ranks - 1) ≡ negsuc 0)
    not_opposite way triangles minus =
        let φ = area_by corners in
        let opposite = sums_opposite φ (length ranks) (λ e. pos 1) balanced.signs (length ranks) (λ e h. one_sign e h ∙ minus) in
        let area : sum_round φ all ≡ doubled_area corners = area_round corners all ∙ ap doubled_area (piece_points_all corners) in
        let areas = triangles_not_negative corners tris (λ t h. (triangles t h).counterclockwise) in
        omega (arith, ints, balanced.balance φ (area_odd corners), opposite, round_ring φ, area, areas, way)

    -- so the triangles fit the ring
    pub balanced_at_end : IsSimple corners → IsCounterclockwise corners → ((t : ℕ) → t < length tris → IsTriOf corners all (tri_at tris t))
        → Fits corners tris
    balanced_at_end simple way triangles =
        let size = are.all_ranks in
        let e = length ranks - 1 in
        let is_edge : e < length ranks = omega (arith, three, size) in
        elim (balanced.are_signs.begun e is_edge (ends_below e is_edge).0) [
          | inl one ↦ fits_bounded corners all tris (ring_is_piece corners three simple way) triangles (boundary_left one)
          | inr minus ↦ absurd (not_opposite way triangles minus)
        ]
