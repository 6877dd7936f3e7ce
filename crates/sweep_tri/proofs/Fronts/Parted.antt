-- The edges that the sweep line meets, parted by the vertex of an event: first those under the vertex, then those that end there,
-- and then those above it.
-- How many of the edges that the sweep line meets end at the vertex of an event: as many as it has neighbours before it.
-- The edges below and above one gap: where the vertex of an event is to them, and whether they end there.
use Rattle.std.proofs.Common.{◌≡◌, ◌⊎◌, inl, inr, refl, sym, subst, ℕ, zero, suc, ◌+◌, ◌-◌, ◌<◌, ◌≤◌, List, length, arith, ap, ◌∙◌, ◌*◌}
use Rattle.std.proofs.lemmas.Bool.{cases_eq, cases_lt, cases_order}
use Rattle.std.specs.Prelude.{slice_index}
use Rattle.plane.specs.Point.{Point}
use Rattle.rings.specs.Below.{IsBelow}
use Rattle.rings.specs.Events.{AreEvents}
use Rattle.rings.specs.Simple.{IsSimple}
use Rattle.sweep_tri.proofs.Fronts.Beside.{AreBeside, beside_differ, beside_swapped, edge_to, ends_from, front}
use Rattle.sweep_tri.proofs.Fronts.Gaps.{length-fronts, low_at, up_at}
use Rattle.sweep_tri.proofs.Fronts.Sides.{Place, above, above_lower, above_no_end, above_not_under, at_end, place_of, under, under_no_end}
use Rattle.sweep_tri.proofs.Fronts.Sides.{under_upper, ends_about, IsFront}
use Rattle.sweep_tri.specs.Frontier.{IsAbove, IsFrontier, IsUnder, front_at, IsMet}
use Rattle.sweep_tri.specs.Gaps.{Front, front_edge, fronts, gap_at, low_front, up_front}
use Rattle.sweep_tri.specs.declared.gap.Gap.{Gap}

-- vertex v is above the edges at the places before `first`, the last end of `count` edges from there, and under the others
pub record IsParted (corners : List Point) (fs : List Front) (v first count : ℕ) : Type 0 where
  pub inside : first + count ≤ length fs
  pub above_first : (i : ℕ) → i < first → IsAbove corners (front_at fs i) v
  pub ends_next : (i : ℕ) → first ≤ i → i < first + count → (front_at fs i).to ≡ v
  pub under_rest : (i : ℕ) → first + count ≤ i → i < length fs → IsUnder corners (front_at fs i) v

-- the longest front of the numbers below n that pass
longest : (P : ℕ → Type 0) (n : ℕ) → ((i : ℕ) → i < n → P i ⊎ (¬ P i)) → (m : ℕ) × (m ≤ n) × ((i : ℕ) → i < m → P i) × (m < n → ¬ P m)
longest P zero decide = (0, omega arith, λ i h. absurd (omega arith), λ h. absurd (omega arith))
longest P (suc n) decide =
    let (m, inside, pass, stop) = longest P n (λ i h. decide i (omega arith)) in
    elim (cases_lt m n) [
      | inl less ↦ (m, omega arith, pass, λ h. stop less)
      | inr not ↦ elim (decide n (omega arith)) [
        | inl p ↦ (
          suc n,
          omega arith,
          λ i h. elim (cases_eq i n) [ inl is ↦ subst P (sym is) p | inr other ↦ pass i (omega arith) ],
          λ h. absurd (omega arith),
        )
        | inr q ↦ (n, omega arith, λ i h. pass i (omega arith), λ h. q)
      ]
    ]

module _ (corners : List Point) (order ranks : List ℕ) (are : AreEvents corners order ranks) (three : 3 ≤ length corners) (simple : IsSimple corners)
    (k v : ℕ) (hv : v < length ranks) (rank_v : slice_index ranks v ≡ k) (fs : List Front) (frontier : IsFrontier corners ranks k fs) where
  place_at : (i : ℕ) → i < length fs → Place corners (front_at fs i) v
  place_at i h = place_of corners order ranks are three simple k v hv rank_v (front_at fs i) (frontier.edges i h)

  -- an edge that v is above has such edges alone before it
  pub above_before : (i j : ℕ) → i < j → j < length fs → IsAbove corners (front_at fs j) v → IsAbove corners (front_at fs i) v
  above_before i j less h above_j =
      above_lower corners order ranks are three simple k v hv rank_v (front_at fs i) (front_at fs j)
      (frontier.edges i (omega arith)) (frontier.edges j h) (frontier.ordered i j less h) above_j

  -- an edge that v is under has such edges alone after it
  pub under_after : (i j : ℕ) → i < j → j < length fs → IsUnder corners (front_at fs i) v → IsUnder corners (front_at fs j) v
  under_after i j less h under_i =
      elim (under_upper corners order ranks are three simple k v hv rank_v (front_at fs i) (front_at fs j)
      (frontier.edges i (omega arith)) (frontier.edges j h) (frontier.ordered i j less h)
      (λ k. above_not_under corners (front_at fs i) v k under_i)) [
        | inl k ↦ k
        | inr k ↦ absurd (under_no_end corners (front_at fs i) v under_i k.0)
      ]

  decide_above : (i : ℕ) → i < length fs → IsAbove corners (front_at fs i) v ⊎ (¬ IsAbove corners (front_at fs i) v)
  decide_above i h = elim (place_at i h) [
    | above k ↦ inl k
    | at_end k ↦ inr (λ l. above_no_end corners (front_at fs i) v l k)
    | under k ↦ inr (λ l. above_not_under corners (front_at fs i) v l k)
  ]

  decide_not_under : (i : ℕ) → i < length fs → (¬ IsUnder corners (front_at fs i) v) ⊎ (¬ (¬ IsUnder corners (front_at fs i) v))
  decide_not_under i h = elim (place_at i h) [
    | above k ↦ inl (λ l. above_not_under corners (front_at fs i) v k l)
    | at_end k ↦ inl (λ l. under_no_end corners (front_at fs i) v l k)
    | under k ↦ inr (λ n. n k)
  ]

  -- so the vertex parts them
  pub parted : (first : ℕ) × (count : ℕ) × IsParted corners fs v first count
  parted =
      let (p, p_inside, p_above, p_stop) = longest (λ i. IsAbove corners (front_at fs i) v) (length fs) decide_above in
      let (q, q_inside, q_not_under, q_stop) = longest (λ i. ¬ IsUnder corners (front_at fs i) v) (length fs) decide_not_under in
      let order : p ≤ q = elim (cases_lt q p) [
        | inl h ↦ absurd (q_stop (omega arith) (λ k. above_not_under corners (front_at fs q) v (p_above q h) k))
        | inr h ↦ h
      ] in
      let under_q : q < length fs → IsUnder corners (front_at fs q) v = λ h. elim (place_at q h) [
        | above k ↦ absurd (q_stop h (λ l. above_not_under corners (front_at fs q) v k l))
        | at_end k ↦ absurd (q_stop h (λ l. under_no_end corners (front_at fs q) v l k))
        | under k ↦ k
      ] in
      let not_above : (i : ℕ) → p ≤ i → i < length fs → ¬ IsAbove corners (front_at fs i) v = λ i late h k. elim (cases_eq p i) [
        | inl is ↦ p_stop (omega arith) (subst (λ j. IsAbove corners (front_at fs j) v) (sym is) k)
        | inr other ↦ p_stop (omega arith) (above_before p i (omega arith) h k)
      ] in (
        p,
        q - p,
        record {
          inside = omega arith;
          above_first = p_above;
          ends_next = λ i late soon. elim (place_at i (omega arith)) [
            | above k ↦ absurd (not_above i late (omega arith) k)
            | at_end k ↦ k
            | under k ↦ absurd (q_not_under i (omega arith) k)
          ];
          under_rest = λ i late h. elim (cases_eq q i) [
            | inl is ↦ subst (λ j. IsUnder corners (front_at fs j) v) is (under_q (omega arith))
            | inr other ↦ under_after q i (omega arith) h (under_q (omega arith))
          ];
        },
      )

  -- no edge is below itself, so none is at two places
  not_itself : (f : Front) → ¬ IsBelow (front_edge corners f) (front_edge corners f)
  not_itself f h = h.differ refl refl

  pub place_is_one : (i j : ℕ) → i < length fs → j < length fs → front_at fs i ≡ front_at fs j → i ≡ j
  place_is_one i j hi hj same = elim (cases_order i j) [
    | inl is ↦ is
    | inr (inl less) ↦
        absurd (not_itself (front_at fs i) (subst (λ (f : Front). IsBelow (front_edge corners (front_at fs i)) (front_edge corners f)) (sym same)
        (frontier.ordered i j less hj)))
    | inr (inr less) ↦
        absurd (not_itself (front_at fs j) (subst (λ (f : Front). IsBelow (front_edge corners (front_at fs j)) (front_edge corners f)) same
        (frontier.ordered j i less hi)))
  ]

module _ (corners : List Point) (order ranks : List ℕ) (are : AreEvents corners order ranks) (three : 3 ≤ length corners) (simple : IsSimple corners)
    (k v : ℕ) (hv : v < length ranks) (rank_v : slice_index ranks v ≡ k) (fs : List Front) (frontier : IsFrontier corners ranks k fs) where
  -- an edge of the list that ends at v comes from a neighbour before it,
  pub ending_from : (s t : ℕ) → AreBeside (length ranks) v s t → (i : ℕ) → i < length fs → (front_at fs i).to ≡ v
      → ((front_at fs i ≡ front s v) × (slice_index ranks s < k)) ⊎ ((front_at fs i ≡ front t v) × (slice_index ranks t < k))
  ending_from s t beside i h to =
      let (e, met, is) = frontier.edges i h in
      let begun = (ends_about corners order ranks are three k (front_at fs i) (frontier.edges i h)).begun in
      elim (ends_from corners order ranks are three v hv s t beside e met.is_edge (ap (λ (f : Front). f.to) (sym is) ∙ to)) [
        | inl from ↦ inl (is ∙ from, omega (arith, begun, ap (λ (f : Front). slice_index ranks f.from) (is ∙ from)))
        | inr from ↦ inr (is ∙ from, omega (arith, begun, ap (λ (f : Front). slice_index ranks f.from) (is ∙ from)))
      ]

  -- and one comes from each such neighbour
  pub edge_from : (s t : ℕ) → AreBeside (length ranks) v s t → slice_index ranks s < k → (i : ℕ) × (i < length fs) × (front_at fs i ≡ front s v)
  edge_from s t beside before =
      let (e, to) = edge_to corners order ranks are three v hv s t beside in
      let is = to.ends_here (omega (arith, before, rank_v)) in
      let met : IsMet ranks k e = record {
        is_edge = to.is_edge;
        begun = omega (arith, before, ap (λ (f : Front). slice_index ranks f.from) is);
        to_come = omega (arith, rank_v, ap (λ (f : Front). slice_index ranks f.to) is);
      } in
      let (i, h, at) = frontier.all e met in
      (i, h, at ∙ is)

  module _ (first count : ℕ) (parted : IsParted corners fs v first count) where
    -- the edges that end at v are those at the places in the middle
    pub in_middle : (i : ℕ) → i < length fs → (front_at fs i).to ≡ v → (first ≤ i) × (i < first + count)
    in_middle i h to = (
      elim (cases_lt i first) [ inl less ↦ absurd (above_no_end corners (front_at fs i) v (parted.above_first i less) to) | inr not ↦ not ],
      elim (cases_lt i (first + count)) [
        | inl less ↦ less
        | inr not ↦ absurd (under_no_end corners (front_at fs i) v (parted.under_rest i not h) to)
      ],
    )

    module _ (s t : ℕ) (beside : AreBeside (length ranks) v s t) where
      from_at : (d : ℕ) → d < count
          → ((front_at fs (first + d) ≡ front s v) × (slice_index ranks s < k)) ⊎ ((front_at fs (first + d) ≡ front t v) × (slice_index ranks t < k))
      from_at d h =
          let inside = parted.inside in
          ending_from s t beside (first + d) (omega (arith, inside, h)) (parted.ends_next (first + d) (omega arith) (omega (arith, h)))

      -- an edge is at the place where it is found
      same_at : (d : ℕ) → d < count → (i : ℕ) → i < length fs → (f : Front) → front_at fs i ≡ f → front_at fs (first + d) ≡ f → first + d ≡ i
      same_at d h i hi f is_i is_d =
          let inside = parted.inside in
          place_is_one corners order ranks are three simple k v hv rank_v fs frontier (first + d) i (omega (arith, inside, h)) hi (is_d ∙ sym is_i)

      -- none where both neighbours are later
      pub none_ends : k < slice_index ranks s → k < slice_index ranks t → count ≡ 0
      none_ends later_s later_t = elim (cases_lt 0 count) [
        | inl some ↦ elim (from_at 0 some) [ inl h ↦ absurd (omega (arith, h.1, later_s)) | inr h ↦ absurd (omega (arith, h.1, later_t)) ]
        | inr none ↦ omega (arith, none)
      ]

      -- one where s alone is before v
      pub one_ends : slice_index ranks s < k → k < slice_index ranks t → count ≡ 1
      one_ends before later =
          let (i, hi, is_i) = edge_from s t beside before in
          let mid = in_middle i hi (ap (λ (f : Front). f.to) is_i) in
          let at : (d : ℕ) → d < count → first + d ≡ i = λ d h. elim (from_at d h) [
            | inl from ↦ same_at d h i hi (front s v) is_i from.0
            | inr from ↦ absurd (omega (arith, from.1, later))
          ] in
          elim (cases_lt 1 count) [
            | inl more ↦ absurd (omega (arith, at 0 (omega (arith, more)), at 1 more))
            | inr not ↦ omega (arith, not, mid.0, mid.1)
          ]

      -- two where both are
      pub two_end : slice_index ranks s < k → slice_index ranks t < k → count ≡ 2
      two_end before_s before_t =
          let (i, hi, is_i) = edge_from s t beside before_s in
          let (j, hj, is_j) = edge_from t s (beside_swapped (length ranks) v s t beside) before_t in
          let mid_i = in_middle i hi (ap (λ (f : Front). f.to) is_i) in
          let mid_j = in_middle j hj (ap (λ (f : Front). f.to) is_j) in
          let other : ¬ (i ≡ j) = λ same. beside_differ corners order ranks are three v hv s t beside
          (ap (λ (f : Front). f.from) (sym is_i ∙ ap (front_at fs) same ∙ is_j)) in
          let at : (d : ℕ) → d < count → (first + d ≡ i) ⊎ (first + d ≡ j) = λ d h. elim (from_at d h) [
            | inl from ↦ inl (same_at d h i hi (front s v) is_i from.0)
            | inr from ↦ inr (same_at d h j hj (front t v) is_j from.0)
          ] in
          elim (cases_lt 2 count) [
            | inl more ↦ absurd (omega (arith, at 0 (omega (arith, more)), at 1 (omega (arith, more)), at 2 more))
            | inr not ↦ omega (arith, not, mid_i.0, mid_i.1, mid_j.0, mid_j.1, other)
          ]

-- neither edge of the gap ends at v
pub record GoesOn (v : ℕ) (g : Gap) : Type 0 where
  pub low_goes_on : ¬ ((low_front g).to ≡ v)
  pub up_goes_on : ¬ ((up_front g).to ≡ v)

-- ---- the edges of one gap

module _ (corners : List Point) (ranks : List ℕ) (k : ℕ) (gaps : List Gap) (frontier : IsFrontier corners ranks k (fronts gaps)) where
  -- the edge below a gap is one that the sweep line meets,
  pub low_is_front : (i : ℕ) → i < length gaps → IsFront ranks k (low_front (gap_at gaps i))
  low_is_front i h = subst (IsFront ranks k) (low_at gaps i h) (frontier.edges (2 * i) (omega (arith, h, length-fronts gaps)))

  -- so is the one above it,
  pub up_is_front : (i : ℕ) → i < length gaps → IsFront ranks k (up_front (gap_at gaps i))
  up_is_front i h = subst (IsFront ranks k) (up_at gaps i h) (frontier.edges (2 * i + 1) (omega (arith, h, length-fronts gaps)))

  -- it is below the upper edge of each later gap
  pub low_below_later : (i j : ℕ) → i < j → j < length gaps
      → IsBelow (front_edge corners (low_front (gap_at gaps i))) (front_edge corners (up_front (gap_at gaps j)))
  low_below_later i j less h =
      rw (low_at gaps i (omega (arith, less, h)), up_at gaps j h) at
      (frontier.ordered (2 * i) (2 * j + 1) (omega (arith, less)) (omega (arith, h, length-fronts gaps)))

module _ (corners : List Point) (gaps : List Gap) (v first count : ℕ) (p : IsParted corners (fronts gaps) v first count) where
  -- v is above the edges at the places before the first,
  pub low_above : (i : ℕ) → i < length gaps → 2 * i < first → IsAbove corners (low_front (gap_at gaps i)) v
  low_above i h at = subst (λ f. IsAbove corners f v) (low_at gaps i h) (p.above_first (2 * i) at)

  -- the last end of those in the middle,
  pub low_ends : (i : ℕ) → i < length gaps → first ≤ 2 * i → 2 * i < first + count → (low_front (gap_at gaps i)).to ≡ v
  low_ends i h from to = subst (λ (f : Front). f.to ≡ v) (low_at gaps i h) (p.ends_next (2 * i) from to)

  pub up_ends : (i : ℕ) → i < length gaps → first ≤ 2 * i + 1 → 2 * i + 1 < first + count → (up_front (gap_at gaps i)).to ≡ v
  up_ends i h from to = subst (λ (f : Front). f.to ≡ v) (up_at gaps i h) (p.ends_next (2 * i + 1) from to)

  -- and under the others
  pub up_under : (i : ℕ) → i < length gaps → first + count ≤ 2 * i + 1 → IsUnder corners (up_front (gap_at gaps i)) v
  up_under i h from = subst (λ f. IsUnder corners f v) (up_at gaps i h) (p.under_rest (2 * i + 1) from (omega (arith, h, length-fronts gaps)))

-- ---- the edges that end at the vertex of an event

module _ (corners : List Point) (order ranks : List ℕ) (are : AreEvents corners order ranks) (three : 3 ≤ length corners) (simple : IsSimple corners)
    (k v : ℕ) (hv : v < length ranks) (rank_v : slice_index ranks v ≡ k) (gaps : List Gap) (frontier : IsFrontier corners ranks k (fronts gaps)) where
  -- where v is above the edge below a gap, it is above those below the gaps before it
  pub sorted : (i j : ℕ) → i < j → j < length gaps → IsAbove corners (low_front (gap_at gaps j)) v → IsAbove corners (low_front (gap_at gaps i)) v
  sorted i j less h is =
      subst (λ f. IsAbove corners f v) (low_at gaps i (omega (arith, less, h)))
      (above_before corners order ranks are three simple k v hv rank_v (fronts gaps) frontier (2 * i) (2 * j) (omega (arith, less))
      (omega (arith, h, length-fronts gaps)) (subst (λ f. IsAbove corners f v) (sym (low_at gaps j h)) is))

  -- the edges of a gap that end at v are those at the places in the middle
  module _ (first count : ℕ) (p : IsParted corners (fronts gaps) v first count) where
    pub low_in_middle : (i : ℕ) → i < length gaps → (low_front (gap_at gaps i)).to ≡ v → (first ≤ 2 * i) × (2 * i < first + count)
    low_in_middle i h to =
        in_middle corners order ranks are three simple k v hv rank_v (fronts gaps) frontier first count p (2 * i)
        (omega (arith, h, length-fronts gaps))
        (subst (λ (f : Front). f.to ≡ v) (sym (low_at gaps i h)) to)

    pub up_in_middle : (i : ℕ) → i < length gaps → (up_front (gap_at gaps i)).to ≡ v → (first ≤ 2 * i + 1) × (2 * i + 1 < first + count)
    up_in_middle i h to =
        in_middle corners order ranks are three simple k v hv rank_v (fronts gaps) frontier first count p (2 * i + 1)
        (omega (arith, h, length-fronts gaps)) (subst (λ (f : Front). f.to ≡ v) (sym (up_at gaps i h)) to)

    -- so a gap whose edges are at other places goes on
    pub goes_on_outside : (i : ℕ) → i < length gaps → ¬ ((first ≤ 2 * i) × (2 * i < first + count))
        → ¬ ((first ≤ 2 * i + 1) × (2 * i + 1 < first + count)) → GoesOn v (gap_at gaps i)
    goes_on_outside i h not_low not_up = record {
      low_goes_on = λ to. not_low (low_in_middle i h to);
      up_goes_on = λ to. not_up (up_in_middle i h to);
    }
