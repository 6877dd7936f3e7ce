-- One region on both sides of a diagonal to the vertex of a split.
-- What the events make of gaps.
use Rattle.std.proofs.Common.{◌≡◌, inl, inr, refl, sym, ap, subst, ℕ, ◌+◌, ◌-◌, ◌<◌, ◌≤◌, List, [], ◌∷◌, ◌++◌, length, get_or, append_assoc}
use Rattle.std.proofs.Common.{arith, ◌∙◌, Option, Some, None, cond, if◌then◌else◌, nat_lt}
use Rattle.std.proofs.lemmas.Bool.{cases_eq, cases_lt, le-ltb, lt-ltb}
use Rattle.std.specs.Prelude.{slice_index}
use Rattle.plane.specs.Point.{Point}
use Rattle.rings.specs.Below.{IsBelow}
use Rattle.rings.specs.Edge.{edge}
use Rattle.rings.specs.Events.{AreEvents}
use Rattle.rings.specs.Ring.{vertex}
use Rattle.mono_fill.specs.declared.side.Side.{Side}
use Rattle.mono_fill.specs.declared.side.Side.TheVariants.{Lower, Upper}
use Rattle.sweep_tri.proofs.Regions.Halves.{continued, stays_open, half_open, IsHalf, same_rank, ends_later, last_is_vertex}
use Rattle.sweep_tri.proofs.Regions.Edges.{nearer_from_start, short_not_last}
use Rattle.sweep_tri.proofs.Regions.Latest.{begins_far, begins_near, far_last, far_some, latest_half, near_some}
use Rattle.sweep_tri.proofs.Regions.Parts.{left_ends, left_far, left_open, half_of}
use Rattle.sweep_tri.proofs.Regions.Paths.{last_grown, rises_to, shortened}
use Rattle.sweep_tri.proofs.Regions.Sides.{AreOpen, IsNearer, IsShort, closed_of, far_chain, near_chain, one_of, open_of, region_of, chains}
use Rattle.sweep_tri.proofs.Regions.Starts.{starts_open, two}
use Rattle.sweep_tri.specs.Frontier.{IsAbove, IsUnder}
use Rattle.sweep_tri.specs.Gaps.{before_last, front_edge, front_of, last, highest}
use Rattle.sweep_tri.specs.Meeting.{left_at, region_from, with_vertex, beside_front, past_diagonal, split_above, split_below}
use Rattle.sweep_tri.specs.Open.{AreTwoRegions, IsOneRegion, IsOpen}
use Rattle.sweep_tri.specs.Region.{Chains, IsClosedRegion, seen_from}

-- a path of two vertices
two_is : (path : List ℕ) → length path ≡ 2 → (two (before_last path) (last path) ≡ path) × (before_last path ∷ [] ≡ shortened path)
two_is [] h = absurd (omega arith)
two_is (x ∷ []) h = absurd (omega arith)
two_is (x ∷ y ∷ []) h = (refl, refl)
two_is (x ∷ y ∷ z ∷ rest) h = absurd (omega arith)

-- from v, which is short of the edge at the end of the far chain, an edge goes on to w
module _ (corners : List Point) (order ranks : List ℕ) (are : AreEvents corners order ranks) (three : 3 ≤ length corners)
    (k v : ℕ) (v_within : v < length corners) (v_rank : slice_index ranks v ≡ k)
    (side : Side) (near far : List ℕ) (open_before : AreOpen corners ranks k side near far)
    (short : IsShort side (front_edge corners (front_of far)) (vertex corners v))
    (w : ℕ) (w_within : w < length corners) (w_later : k < slice_index ranks w)
    (nearer : IsNearer side (edge (vertex corners v) (vertex corners w)) (front_edge corners (front_of far))) where
  abbrev p : ℕ
  p = before_last near

  abbrev q : ℕ
  q = before_last far

  -- ---- beside the edge at the end of the far chain, from where that begins

  beside_open : AreOpen corners ranks k side (two q v) (two q (last far))
  beside_open =
      starts_open corners ranks side q v (last far) (begins_far open_before) v_within (far_last open_before)
      (λ is. short_not_last side (front_edge corners (front_of far)) (rw is at short))
      (nearer_from_start side (edge (vertex corners q) (vertex corners v)) (edge (vertex corners q) (vertex corners (last far))) refl short)
      k (open_before.far_before (length far - 2) (let h = far_some open_before in omega arith)) (omega (arith, v_rank)) open_before.far_to_come

  pub beside : AreOpen corners ranks (k + 1) side (q ∷ v ∷ w ∷ []) (two q (last far))
  beside =
      continued corners order ranks are three k v v_within v_rank side (two q v) (two q (last far)) beside_open refl short w w_within w_later nearer

  -- ---- from the later of the vertices where the edges at the ends begin, the near one

  from_later : slice_index ranks q < slice_index ranks p → AreOpen corners ranks (k + 1) side (shortened near ++ v ∷ w ∷ []) far
  from_later less =
      let half = latest_half corners order ranks are three k v v_within v_rank side near far open_before less in
      subst (λ path. AreOpen corners ranks (k + 1) side path far) (append_assoc (shortened near) (v ∷ []) (w ∷ []))
      (continued corners order ranks are three k v v_within v_rank side (shortened near ++ v ∷ []) far
      (half_open corners ranks k v v_within v_rank side (shortened near) far half (inl short))
      (last_grown (shortened near) v) short w w_within w_later nearer)

  -- where neither is the first vertex, they are two
  inner_differ : 3 ≤ length near → 3 ≤ length far → ¬ (slice_index ranks q ≡ slice_index ranks p)
  inner_differ near_more far_more same =
      let is = same_rank corners order ranks are three (slice_index ranks q) q (begins_far open_before) refl p (begins_near open_before) (sym same) in
      let ends = open_before.pair.apart (length near - 2) (length far - 2) (omega arith) (omega arith) (omega arith) (omega arith) is in
      let at = ends.0 in
      omega arith

  -- so where they are one vertex, it is that
  both_two : slice_index ranks q ≡ slice_index ranks p → (length near ≡ 2) × (length far ≡ 2)
  both_two same =
      let near_two = near_some open_before in
      let far_two = far_some open_before in
      let first = ap (slice_index ranks) open_before.pair.first in
      elim (cases_eq (length near) 2) [
        | inl near_is ↦
            let at : length near - 2 ≡ 0 = omega arith in
            let p_first = ap (λ i. slice_index ranks (get_or near i 0)) at in
            elim (cases_eq (length far) 2) [
              | inl far_is ↦ (near_is, far_is)
              | inr more ↦
                  let rise = rises_to ranks far open_before.pair.far_rises 0 (length far - 2) (omega (arith, more)) (omega arith) in
                  absurd (omega (arith, same, first, p_first, rise))
            ]
        | inr near_more ↦
            let near_rise = rises_to ranks near open_before.pair.near_rises 0 (length near - 2) (omega (arith, near_more)) (omega arith) in
            elim (cases_eq (length far) 2) [
              | inl far_is ↦
                  let at : length far - 2 ≡ 0 = omega arith in
                  let q_first = ap (λ i. slice_index ranks (get_or far i 0)) at in
                  absurd (omega (arith, same, first, q_first, near_rise))
              | inr more ↦
                  absurd (inner_differ (omega (arith, near_more)) (omega (arith, more)) same)
            ]
      ]

  from_first : slice_index ranks q ≡ slice_index ranks p → AreOpen corners ranks (k + 1) side (shortened near ++ v ∷ w ∷ []) far
  from_first same =
      let sizes = both_two same in
      let is = same_rank corners order ranks are three (slice_index ranks q) q (begins_far open_before) refl p (begins_near open_before) (sym same) in
      subst (λ path. AreOpen corners ranks (k + 1) side (shortened near ++ v ∷ w ∷ []) path) ((two_is far sizes.1).0)
      (subst (λ path. AreOpen corners ranks (k + 1) side (path ++ v ∷ w ∷ []) (two q (last far))) ((two_is near sizes.0).1)
      (subst (λ u. AreOpen corners ranks (k + 1) side (u ∷ v ∷ w ∷ []) (two q (last far))) (sym is) beside))

  pub from_latest : slice_index ranks q ≤ slice_index ranks p → AreOpen corners ranks (k + 1) side (shortened near ++ v ∷ w ∷ []) far
  from_latest at_most = elim (cases_lt (slice_index ranks q) (slice_index ranks p)) [
    | inl less ↦ from_later less
    | inr not ↦ from_first (omega arith)
  ]

-- v is the vertex of event k
module _ (corners : List Point) (order ranks : List ℕ) (are : AreEvents corners order ranks) (three : 3 ≤ length corners)
    (k v : ℕ) (v_within : v < length corners) (v_rank : slice_index ranks v ≡ k) where
  abbrev point : ℕ → Point
  point u = vertex corners u

  -- a vertex short of the edge at the end of a path is not the last of that
  not_last : (side : Side) (path : List ℕ) → IsShort side (front_edge corners (front_of path)) (point v) → ¬ (last path ≡ v)
  not_last side path short is =
      short_not_last side (front_edge corners (front_of path))
      (subst (λ u. IsShort side (front_edge corners (front_of path)) (point u)) (sym is) short)

  -- a gap begins at v, with edges to a and, above it, to b
  pub begins : (a b : ℕ) → a < length corners → b < length corners → k < slice_index ranks a → k < slice_index ranks b → ¬ (a ≡ b)
      → IsBelow (edge (point v) (point a)) (edge (point v) (point b)) → IsOneRegion corners ranks (k + 1) (region_from v a b)
  begins a b a_within b_within a_later b_later other below =
      one_of corners ranks (k + 1) Lower (v ∷ a ∷ []) (v ∷ b ∷ [])
      (starts_open corners ranks Lower v a b v_within a_within b_within other below (k + 1) (omega (arith, v_rank)) (omega arith) (omega arith))

  -- ---- an open gap

  module _ (low : Chains) (high : Option Chains) (gap : IsOpen corners ranks k low high) where
    -- its edge on this side ends at v, and where another goes on from there, to w, what is left stays open
    pub goes_on : (side : Side) → last (near_chain side low high) ≡ v
        → (let f = front_edge corners (front_of (far_chain side low high)) in
        IsShort side f (point v) → (w : ℕ) → w < length corners → k < slice_index ranks w → IsNearer side (edge (point v) (point w)) f
        → IsOneRegion corners ranks (k + 1) (with_vertex side (left_at side low high v) w))
    goes_on side is short w w_within w_later nearer =
        let s = seen_from side (left_at side low high v) in
        let far : far_chain side low high ≡ s.upper = sym (left_far side low high v) in
        one_of corners ranks (k + 1) side (s.lower ++ w ∷ []) s.upper
        (continued corners order ranks are three k v v_within v_rank side s.lower s.upper
        (left_open corners ranks k v v_within v_rank side low high gap (inl short)) (left_ends side low high v is)
        (subst (λ path. IsShort side (front_edge corners (front_of path)) (point v)) far short) w w_within w_later
        (subst (λ path. IsNearer side (edge (point v) (point w)) (front_edge corners (front_of path))) far nearer))

    -- both edges end at v: all that is left is closed
    pub ends : last low.lower ≡ v → last (highest low high).upper ≡ v → IsClosedRegion corners ranks (left_at Upper low high v)
    ends lower_is upper_is =
        let s = seen_from Upper (left_at Upper low high v) in
        closed_of corners ranks Upper s.lower s.upper ((left_open corners ranks k v v_within v_rank Upper low high gap (inr lower_is)).pair)
        (left_ends Upper low high v upper_is ∙ sym lower_is ∙ ap last (sym (left_far Upper low high v)))

  -- neither edge ends at v: the gap stays open
  pub stays : (low : Chains) (high : Option Chains) → IsOpen corners ranks k low high → ¬ (last low.lower ≡ v) → ¬ (last (highest low high).upper ≡ v)
      → IsOpen corners ranks (k + 1) low high
  stays low None gap lower_other upper_other =
      one_of corners ranks (k + 1) Lower low.lower low.upper
      (stays_open corners order ranks are three k v v_within v_rank Lower low.lower low.upper (open_of corners ranks k Lower low gap)
      lower_other upper_other)
  stays low (Some high) gap lower_other upper_other =
      let lower_some = gap.low_is_region.lower_some in
      let upper_some = gap.high_is_region.upper_some in
      let before = gap.merge_before in
      record {
        low_is_region = gap.low_is_region;
        high_is_region = gap.high_is_region;
        merge = gap.merge;
        merge_before = omega arith;
        lower_before = gap.lower_before;
        upper_before = gap.upper_before;
        lower_to_come =
            ends_later corners order ranks are three k v v_within v_rank low.lower
            (last_is_vertex corners low.lower (omega arith) gap.low_is_region.lower_numbers) lower_other gap.lower_to_come;
        upper_to_come =
            ends_later corners order ranks are three k v v_within v_rank high.upper
            (last_is_vertex corners high.upper (omega arith) gap.high_is_region.upper_numbers) upper_other gap.upper_to_come;
        above_low = gap.above_low;
        under_up = gap.under_up;
      }

  -- ---- two gaps

  -- regions whose inner chains end at v, between the other two, are two of one gap
  meets : (c d : Chains) → AreOpen corners ranks k Upper c.upper c.lower → AreOpen corners ranks k Lower d.lower d.upper
      → last c.upper ≡ v → last d.lower ≡ v → IsAbove corners (front_of c.lower) v → IsUnder corners (front_of d.upper) v
      → AreTwoRegions corners ranks (k + 1) c d
  meets c d c_open d_open c_is d_is above under =
      let lower_some = c_open.pair.far_some in
      let upper_some = d_open.pair.far_some in
      let merge : slice_index ranks (last c.upper) ≡ k = ap (slice_index ranks) c_is ∙ v_rank in
      record {
        low_is_region = region_of corners ranks Upper c.upper c.lower c_open.pair;
        high_is_region = region_of corners ranks Lower d.lower d.upper d_open.pair;
        merge = c_is ∙ sym d_is;
        merge_before = omega arith;
        lower_before = λ i h. let less = c_open.far_before i h in omega arith;
        upper_before = λ i h. let less = d_open.far_before i h in omega arith;
        lower_to_come =
            ends_later corners order ranks are three k v v_within v_rank c.lower
            (last_is_vertex corners c.lower (omega arith) c_open.pair.far_numbers) (not_last Upper c.lower above) c_open.far_to_come;
        upper_to_come =
            ends_later corners order ranks are three k v v_within v_rank d.upper
            (last_is_vertex corners d.upper (omega arith) d_open.pair.far_numbers) (not_last Lower d.upper under) d_open.far_to_come;
        above_low = subst (λ u. IsAbove corners (front_of c.lower) u) (sym c_is) above;
        under_up = subst (λ u. IsUnder corners (front_of d.upper) u) (sym c_is) under;
      }

  -- the upper edge of one gap and the lower edge of another end at v, so what is left of them is one gap
  pub merges : (low low' : Chains) (high high' : Option Chains) → IsOpen corners ranks k low high → IsOpen corners ranks k low' high'
      → last (highest low high).upper ≡ v → IsAbove corners (front_of low.lower) v
      → last low'.lower ≡ v → IsUnder corners (front_of (highest low' high').upper) v
      → AreTwoRegions corners ranks (k + 1) (left_at Upper low high v) (left_at Lower low' high' v)
  merges low low' high high' gap gap' is above is' under =
      meets (left_at Upper low high v) (left_at Lower low' high' v)
      (left_open corners ranks k v v_within v_rank Upper low high gap (inl above))
      (left_open corners ranks k v v_within v_rank Lower low' high' gap' (inl under))
      (left_ends Upper low high v is) (left_ends Lower low' high' v is')
      (subst (λ path. IsAbove corners (front_of path) v) (sym (left_far Upper low high v)) above)
      (subst (λ path. IsUnder corners (front_of path) v) (sym (left_far Lower low' high' v)) under)

-- ---- what a split makes of a gap

-- what holds of both of two regions where each is chosen holds of the chosen one
chosen : (P : Chains → Type 0) (a b : ℕ) (c d : Chains) → (a < b → P c) → (b ≤ a → P d) → P (if nat_lt a b then c else d)
chosen P a b c d p q = elim (cases_lt a b) [
  | inl less ↦ subst P (sym (ap (λ t. cond t c d) (lt-ltb a b less))) (p less)
  | inr not ↦ subst P (sym (ap (λ t. cond t c d) (le-ltb a b not))) (q not)
]

-- v is the vertex of event k, from where an edge goes on to w
module _ (corners : List Point) (order ranks : List ℕ) (are : AreEvents corners order ranks) (three : 3 ≤ length corners)
    (k v : ℕ) (v_within : v < length corners) (v_rank : slice_index ranks v ≡ k)
    (w : ℕ) (w_within : w < length corners) (w_later : k < slice_index ranks w) where
  -- of two regions the one that is not at the edge on this side
  half_splits : (side : Side) (near far : List ℕ) → IsHalf corners ranks k side near far → IsShort side (front_edge corners (front_of far)) (vertex corners v)
      → IsNearer side (edge (vertex corners v) (vertex corners w)) (front_edge corners (front_of far))
      → IsOneRegion corners ranks (k + 1) (chains side (near ++ v ∷ w ∷ []) far)
  half_splits side near far half short nearer =
      one_of corners ranks (k + 1) side (near ++ v ∷ w ∷ []) far
      (subst (λ path. AreOpen corners ranks (k + 1) side path far) (append_assoc near (v ∷ []) (w ∷ []))
      (continued corners order ranks are three k v v_within v_rank side (near ++ v ∷ []) far
      (half_open corners ranks k v v_within v_rank side near far half (inl short)) (last_grown near v) short w w_within w_later nearer))

  -- of one region what is beside its edge on the far side, and what is there past the diagonal
  module _ (side : Side) (c : Chains) (gap : IsOneRegion corners ranks k c) where
    abbrev near : List ℕ
    near = (seen_from side c).lower

    abbrev far : List ℕ
    far = (seen_from side c).upper

    module _ (short : IsShort side (front_edge corners (front_of far)) (vertex corners v))
        (nearer : IsNearer side (edge (vertex corners v) (vertex corners w)) (front_edge corners (front_of far))) where
      is_beside : IsOneRegion corners ranks (k + 1) (chains side (before_last far ∷ v ∷ w ∷ []) (before_last far ∷ last far ∷ []))
      is_beside =
          one_of corners ranks (k + 1) side (before_last far ∷ v ∷ w ∷ []) (before_last far ∷ last far ∷ [])
          (beside corners order ranks are three k v v_within v_rank side near far (open_of corners ranks k side c gap) short w w_within w_later nearer)

      is_past : slice_index ranks (before_last far) ≤ slice_index ranks (before_last near)
          → IsOneRegion corners ranks (k + 1) (chains side (shortened near ++ v ∷ w ∷ []) far)
      is_past latest =
          one_of corners ranks (k + 1) side (shortened near ++ v ∷ w ∷ []) far
          (from_latest corners order ranks are three k v v_within v_rank side near far (open_of corners ranks k side c gap) short w w_within w_later
          nearer latest)

  -- the region between the lower edge of the gap and that one
  pub splits_below : (low : Chains) (high : Option Chains) → IsOpen corners ranks k low high → IsAbove corners (front_of low.lower) v
      → IsBelow (front_edge corners (front_of low.lower)) (edge (vertex corners v) (vertex corners w))
      → IsOneRegion corners ranks (k + 1) (split_below ranks low high v w)
  splits_below c None gap above below =
      chosen (IsOneRegion corners ranks (k + 1)) (slice_index ranks (before_last c.upper)) (slice_index ranks (before_last c.lower))
      (beside_front Lower c v w) (past_diagonal Upper c v w) (λ _. is_beside Upper c gap above below) (is_past Upper c gap above below)
  splits_below low (Some high) gap above below = half_splits Upper low.upper low.lower (half_of corners ranks k Upper low high gap) above below

  -- the region between it and the upper edge
  pub splits_above : (low : Chains) (high : Option Chains) → IsOpen corners ranks k low high → IsUnder corners (front_of (highest low high).upper) v
      → IsBelow (edge (vertex corners v) (vertex corners w)) (front_edge corners (front_of (highest low high).upper))
      → IsOneRegion corners ranks (k + 1) (split_above ranks low high v w)
  splits_above c None gap under below =
      chosen (IsOneRegion corners ranks (k + 1)) (slice_index ranks (before_last c.upper)) (slice_index ranks (before_last c.lower))
      (past_diagonal Lower c v w) (beside_front Upper c v w)
      (λ less. is_past Lower c gap under below (omega (arith, less))) (λ _. is_beside Lower c gap under below)
  splits_above low (Some high) gap under below = half_splits Lower high.lower high.upper (half_of corners ranks k Lower low high gap) under below
