-- What comes to an end at an event: the ranks of the vertices of a chain.
-- An open region whose near chain ends at the vertex of an event, after that.
-- A region with one more vertex at the end of a chain.
-- Of two regions that meet at a merge vertex, one with its inner chain led to the vertex of an event.
use Rattle.std.proofs.Common.{◌≡◌, ◌⊎◌, inl, inr, sym, ap, ◌∙◌, ℕ, ◌+◌, ◌-◌, ◌<◌, ◌≤◌, List, [], ◌∷◌, ◌++◌, length, get_or, arith, subst}
use Rattle.std.proofs.lemmas.Bool.{cases_eq, cases_lt}
use Rattle.std.specs.List.{All}
use Rattle.std.specs.Prelude.{slice_index}
use Rattle.std.proofs.lemmas.List.{get_or_default}
use Rattle.plane.specs.Point.{Point}
use Rattle.rings.proofs.Sweeps.{event_of}
use Rattle.rings.specs.Edge.{Edge, edge}
use Rattle.rings.specs.Events.{AreEvents}
use Rattle.rings.specs.Ring.{vertex}
use Rattle.mono_fill.specs.declared.side.Side.{Side}
use Rattle.sweep_tri.proofs.Regions.Edges.{nearer_short, nearer_to_end, short_not_last}
use Rattle.sweep_tri.proofs.Regions.Paths.{item_cases, last_grown, length_grown, rises_to_last, last_step, old_item, step_cases}
use Rattle.sweep_tri.proofs.Regions.Sides.{AreNearer, ArePair, IsNearer, AreOpen, IsShort, chains, closed_of}
use Rattle.sweep_tri.specs.Gaps.{last, before_last, front_edge, front_of}
use Rattle.sweep_tri.specs.Open.{ComeBefore, EndsFrom}
use Rattle.sweep_tri.specs.Region.{RisesBy, IsStep, ShareEnds, IsClosedRegion}

-- an item is the last one or before it
pub last_or_before : (path : List ℕ) (j : ℕ) → j < length path → (j + 1 < length path) ⊎ (last path ≡ get_or path j 0)
last_or_before path j h = elim (cases_lt (j + 1) (length path)) [
  | inl less ↦ inl less
  | inr not ↦ let is : length path - 1 ≡ j = omega arith in inr (ap (λ i. get_or path i 0) is)
]

-- the last item is a vertex
pub last_is_vertex : (corners : List Point) (path : List ℕ) → 1 ≤ length path → All (λ v. v < length corners) path → last path < length corners
last_is_vertex corners path some all = all (length path - 1) 0 (omega arith)

-- what comes before an event comes before the next
pub before_next : (ranks : List ℕ) (k : ℕ) (path : List ℕ) → ComeBefore ranks k path → ComeBefore ranks (k + 1) path
before_next ranks k path h i within = let less = h i within in omega arith

-- a path that has passed its last vertex comes before whatever follows that
pub before_of_rise : (ranks : List ℕ) (k : ℕ) (path : List ℕ) (x : ℕ) → RisesBy ranks path → slice_index ranks (last path) < k
    → ComeBefore ranks k (path ++ x ∷ [])
before_of_rise ranks k path x rises passed i within = elim (item_cases path x i (omega arith)) [
  | inl old ↦
      elim (last_or_before path i old.0) [
        | inl earlier ↦ omega (arith, rises_to_last ranks path rises i earlier, passed, ap (slice_index ranks) old.1)
        | inr is ↦ omega (arith, passed, ap (slice_index ranks) old.1, ap (slice_index ranks) is)
      ]
  | inr new ↦ absurd (omega (arith, new.0, length_grown path x))
]

pub ends_grown : (ranks : List ℕ) (k : ℕ) (path : List ℕ) (x : ℕ) → k ≤ slice_index ranks x → EndsFrom ranks k (path ++ x ∷ [])
ends_grown ranks k path x h = omega (arith, ap (slice_index ranks) (last_grown path x))

module _ (corners : List Point) (order ranks : List ℕ) (are : AreEvents corners order ranks) (three : 3 ≤ length corners)
    (k v : ℕ) (v_within : v < length corners) (v_rank : slice_index ranks v ≡ k) where
  -- one vertex has the rank
  pub same_rank : (u : ℕ) → u < length corners → slice_index ranks u ≡ k → u ≡ v
  same_rank u h is =
      let size = are.all_ranks in
      sym (event_of corners order ranks are three u (omega arith)) ∙ ap (slice_index order) (is ∙ sym v_rank)
      ∙ event_of corners order ranks are three v (omega arith)

  -- so a path to come that does not end there ends later
  pub ends_later : (path : List ℕ) → last path < length corners → ¬ (last path ≡ v) → EndsFrom ranks k path → EndsFrom ranks (k + 1) path
  ends_later path h other to_come = elim (cases_eq (slice_index ranks (last path)) k) [
    | inl is ↦ absurd (other (same_rank (last path) h is))
    | inr not ↦ omega (arith, not)
  ]

-- x follows the last vertex of the near chain
module _ (corners : List Point) (ranks : List ℕ) (side : Side) (near far : List ℕ) (x : ℕ) where
  -- where the new edge and the last one of the far chain are over one another, it is on the near side of that
  abbrev pub IsNearerThere : Type 0
  IsNearerThere = slice_index ranks (last near) < slice_index ranks (last far) → slice_index ranks (before_last far) < slice_index ranks x
      → IsNearer side (edge (vertex corners (last near)) (vertex corners x)) (front_edge corners (front_of far))

  -- what has to hold
  pub record CanGrow : Type 0 where
    pub is_vertex : x < length corners
    pub later : slice_index ranks (last near) < slice_index ranks x
    pub fresh : (j : ℕ) → 0 < j → j < length far → ¬ (last near ≡ get_or far j 0)
    pub new : (j : ℕ) → 0 < j → j < length far → x ≡ get_or far j 0 → j + 1 ≡ length far
    pub past : (j : ℕ) → j + 1 < length far → slice_index ranks (get_or far j 0) ≤ slice_index ranks (last near)
    pub nearer : IsNearerThere

  module _ (pair : ArePair corners ranks side near far) (can : CanGrow) where
    some : 1 ≤ length near
    some = let two = pair.near_some in omega arith

    numbers : All (λ v. v < length corners) (near ++ x ∷ [])
    numbers i d h =
        let is = get_or_default (near ++ x ∷ []) i d 0 h in
        elim (item_cases near x i h) [
          | inl k ↦ subst (λ v. v < length corners) (sym (is ∙ k.1)) (pair.near_numbers i 0 k.0)
          | inr k ↦ subst (λ v. v < length corners) (sym (is ∙ k.1)) can.is_vertex
        ]

    rises : RisesBy ranks (near ++ x ∷ [])
    rises a b s = elim (step_cases near x a b some s) [
      | inl old ↦ pair.near_rises a b old
      | inr k ↦ let later = can.later in omega (arith, ap (slice_index ranks) k.0, ap (slice_index ranks) k.1)
    ]

    abbrev new_edge : Edge
    new_edge = edge (vertex corners (last near)) (vertex corners x)

    -- the new edge is on the near side of the last one of the far chain, and after all others there
    nearer_new : (c d : ℕ) → IsStep far c d → slice_index ranks (last near) < slice_index ranks d → slice_index ranks c < slice_index ranks x
        → IsNearer side new_edge (edge (vertex corners c) (vertex corners d))
    nearer_new c d s h k = elim (last_step far c d s) [
      | inl is ↦
          subst (λ p. IsNearer side new_edge (edge (vertex corners p) (vertex corners d))) is.0
          (subst (λ q. IsNearer side new_edge (edge (vertex corners (before_last far)) (vertex corners q))) is.1
          (can.nearer (subst (λ q. slice_index ranks (last near) < slice_index ranks q) (sym is.1) h)
          (subst (λ p. slice_index ranks p < slice_index ranks x) (sym is.0) k)))
      | inr earlier ↦ let (j, within, is) = earlier in absurd (omega (arith, h, can.past j within, ap (slice_index ranks) is))
    ]

    nearer : AreNearer corners ranks side (near ++ x ∷ []) far
    nearer a b c d s t h k = elim (step_cases near x a b some s) [
      | inl old ↦ pair.nearer a b c d old t h k
      | inr is ↦
          subst (λ p. IsNearer side (edge (vertex corners p) (vertex corners b)) (edge (vertex corners c) (vertex corners d))) is.0
          (subst (λ q. IsNearer side (edge (vertex corners (last near)) (vertex corners q)) (edge (vertex corners c) (vertex corners d))) is.1
          (nearer_new c d t (subst (λ p. slice_index ranks p < slice_index ranks d) (sym is.0) h)
          (subst (λ q. slice_index ranks c < slice_index ranks q) (sym is.1) k)))
    ]

    apart : ShareEnds (near ++ x ∷ []) far
    apart i j i_some i_within j_some j_within e = elim (item_cases near x i i_within) [
      | inl old ↦
          let same : get_or near i 0 ≡ get_or far j 0 = sym old.1 ∙ e in
          let ends = pair.apart i j i_some old.0 j_some j_within same in
          let is : i ≡ length near - 1 = let at = ends.0 in omega arith in
          absurd (can.fresh j j_some j_within (ap (λ n. get_or near n 0) (sym is) ∙ same))
      | inr k ↦ (omega (arith, k.0, length_grown near x), can.new j j_some j_within (sym k.1 ∙ e))
    ]

    pub grown : ArePair corners ranks side (near ++ x ∷ []) far
    grown = record {
      near_some = let two = pair.near_some in omega (arith, length_grown near x);
      far_some = pair.far_some;
      near_numbers = numbers;
      far_numbers = pair.far_numbers;
      first = old_item near x 0 some ∙ pair.first;
      near_rises = rises;
      far_rises = pair.far_rises;
      nearer = nearer;
      apart = apart;
    }

-- the inner chain ends at a vertex that is later than all of the outer one but its last, and short of the edge at the end of that
pub record IsHalf (corners : List Point) (ranks : List ℕ) (k : ℕ) (side : Side) (inner outer : List ℕ) : Type 0 where
  pub pair : ArePair corners ranks side inner outer
  pub merge_before : slice_index ranks (last inner) < k
  pub outer_before : ComeBefore ranks (slice_index ranks (last inner)) outer
  pub outer_to_come : EndsFrom ranks k outer
  pub short : IsShort side (front_edge corners (front_of outer)) (vertex corners (last inner))

module _ (corners : List Point) (ranks : List ℕ) (k v : ℕ) (v_within : v < length corners) (v_rank : slice_index ranks v ≡ k)
    (side : Side) (inner outer : List ℕ) (half : IsHalf corners ranks k side inner outer) where
  -- the merge vertex is not on the outer chain
  fresh : (j : ℕ) → 0 < j → j < length outer → ¬ (last inner ≡ get_or outer j 0)
  fresh j some within e = elim (last_or_before outer j within) [
    | inl earlier ↦ omega (arith, half.outer_before j earlier, ap (slice_index ranks) e)
    | inr is ↦ omega (arith, half.merge_before, half.outer_to_come, ap (slice_index ranks) (e ∙ sym is))
  ]

  -- v is there at most as the last
  new : (j : ℕ) → 0 < j → j < length outer → v ≡ get_or outer j 0 → j + 1 ≡ length outer
  new j some within e = elim (cases_lt (j + 1) (length outer)) [
    | inl earlier ↦ absurd (omega (arith, half.outer_before j earlier, half.merge_before, v_rank, ap (slice_index ranks) e))
    | inr not ↦ omega arith
  ]

  led : IsNearer side (edge (vertex corners (last inner)) (vertex corners v)) (front_edge corners (front_of outer))
      → ArePair corners ranks side (inner ++ v ∷ []) outer
  led nearer = grown corners ranks side inner outer v half.pair (record {
    is_vertex = v_within;
    later = let before = half.merge_before in omega (arith, v_rank);
    fresh = fresh;
    new = new;
    past = λ j h. let less = half.outer_before j h in omega arith;
    nearer = λ h l. nearer;
  })

  -- where the outer chain ends at v, it is closed;
  pub half_closed : last outer ≡ v → ArePair corners ranks side (inner ++ v ∷ []) outer
  half_closed is =
      led (nearer_to_end side (edge (vertex corners (last inner)) (vertex corners v)) (front_edge corners (front_of outer)) half.short
      (ap (vertex corners) (sym is)))

  pub half_is_closed : last outer ≡ v → IsClosedRegion corners ranks (chains side (inner ++ v ∷ []) outer)
  half_is_closed is = closed_of corners ranks side (inner ++ v ∷ []) outer (half_closed is) (last_grown inner v ∙ sym is)

  -- where v is short of the edge at its end, or that end, it is open
  pub half_open : IsShort side (front_edge corners (front_of outer)) (vertex corners v) ⊎ (last outer ≡ v)
      → AreOpen corners ranks k side (inner ++ v ∷ []) outer
  half_open there = record {
    pair = elim there [
      | inl short ↦
          led (nearer_short side (edge (vertex corners (last inner)) (vertex corners v)) (front_edge corners (front_of outer)) half.short short)
      | inr is ↦ half_closed is
    ];
    near_before = before_of_rise ranks k inner v half.pair.near_rises half.merge_before;
    far_before = λ j h. let less = half.outer_before j h in let before = half.merge_before in omega arith;
    near_to_come = ends_grown ranks k inner v (omega (arith, v_rank));
    far_to_come = half.outer_to_come;
  }

module _ (corners : List Point) (order ranks : List ℕ) (are : AreEvents corners order ranks) (three : 3 ≤ length corners)
    (k v : ℕ) (v_within : v < length corners) (v_rank : slice_index ranks v ≡ k)
    (side : Side) (near far : List ℕ) (open_before : AreOpen corners ranks k side near far) where
  far_last : last far < length corners
  far_last = let two = open_before.pair.far_some in last_is_vertex corners far (omega arith) open_before.pair.far_numbers

  -- the near chain ends at v, from where an edge goes on to w, and v is short of the edge at the end of the far one
  module _ (at_v : last near ≡ v) (short : IsShort side (front_edge corners (front_of far)) (vertex corners v))
      (w : ℕ) (w_within : w < length corners) (w_later : k < slice_index ranks w)
      (nearer : IsNearer side (edge (vertex corners v) (vertex corners w)) (front_edge corners (front_of far))) where
    other : ¬ (last far ≡ v)
    other is =
        short_not_last side (front_edge corners (front_of far))
        (subst (λ u. IsShort side (front_edge corners (front_of far)) (vertex corners u)) (sym is) short)

    last_rank : slice_index ranks (last near) ≡ k
    last_rank = ap (slice_index ranks) at_v ∙ v_rank

    can : CanGrow corners ranks side near far w
    can = record {
      is_vertex = w_within;
      later = omega (arith, w_later, last_rank);
      fresh = λ j some within e. elim (last_or_before far j within) [
        | inl earlier ↦ omega (arith, open_before.far_before j earlier, last_rank, ap (slice_index ranks) e)
        | inr is ↦ other (is ∙ sym e ∙ at_v)
      ];
      new = λ j some within e. elim (cases_lt (j + 1) (length far)) [
        | inl earlier ↦ absurd (omega (arith, open_before.far_before j earlier, w_later, ap (slice_index ranks) e))
        | inr not ↦ omega arith
      ];
      past = λ j h. let less = open_before.far_before j h in omega (arith, last_rank);
      nearer = λ h l. subst (λ u. IsNearer side (edge (vertex corners u) (vertex corners w)) (front_edge corners (front_of far))) (sym at_v) nearer;
    }

    pub continued : AreOpen corners ranks (k + 1) side (near ++ w ∷ []) far
    continued = record {
      pair = grown corners ranks side near far w open_before.pair can;
      near_before = before_of_rise ranks (k + 1) near w open_before.pair.near_rises (omega (arith, last_rank));
      far_before = before_next ranks k far open_before.far_before;
      near_to_come = ends_grown ranks (k + 1) near w (omega arith);
      far_to_come = ends_later corners order ranks are three k v v_within v_rank far far_last other open_before.far_to_come;
    }

  -- v is on neither chain: it stays open
  pub stays_open : ¬ (last near ≡ v) → ¬ (last far ≡ v) → AreOpen corners ranks (k + 1) side near far
  stays_open near_other far_other =
      let two = open_before.pair.near_some in
      record {
        pair = open_before.pair;
        near_before = before_next ranks k near open_before.near_before;
        far_before = before_next ranks k far open_before.far_before;
        near_to_come =
            ends_later corners order ranks are three k v v_within v_rank near
            (last_is_vertex corners near (omega arith) open_before.pair.near_numbers) near_other open_before.near_to_come;
        far_to_come = ends_later corners order ranks are three k v v_within v_rank far far_last far_other open_before.far_to_come;
      }
