-- The triangles that fill closed regions have the sums of these.
-- What an event does to the regions of a gap, by their sums.
-- Each event keeps the balance.
use Rattle.std.proofs.Common.{◌≡◌, sym, ap, ◌∙◌, ℕ, suc, ◌-◌, ◌≤◌, ℤ, pos, ◌+ℤ◌, ◌-ℤ◌, List, [], ◌∷◌, ◌++◌, length, take, drop, get_or}
use Rattle.std.proofs.Common.{reverse, arith, negsuc, ◌*ℤ◌, Bool, true, false, if◌then◌else◌, nat_lt, Option, Some, None, ◌⊎◌, inl, inr}
use Rattle.std.proofs.Common.{refl, ◌+◌, ◌<◌, set}
use Rattle.std.proofs.lemmas.Int.{ints}
use Rattle.std.proofs.lemmas.List.{append_assoc, reverse-append, length-append}
use Rattle.std.proofs.lemmas.List.Elements.{All-head, All-tail}
use Rattle.std.specs.List.{All, insert, remove}
use Rattle.std.specs.Prelude.{slice_index}
use Rattle.std.proofs.lemmas.List.Edits.{get_or-remove_below, length-remove}
use Rattle.plane.specs.Point.{Point}
use Rattle.rings.specs.Events.{AreEvents, next, previous}
use Rattle.meshes.proofs.Boundaries.{sides_append, sides_cancel, sum_parted}
use Rattle.meshes.specs.Boundary.{IsOdd, sum_along, sum_from, sum_round, sum_sides}
use Rattle.meshes.specs.declared.tri.Tri.{Tri}
use Rattle.mono_fill.specs.Filled.{IsFilled}
use Rattle.mono_fill.specs.declared.side.Side.{Side}
use Rattle.mono_fill.specs.declared.side.Side.TheVariants.{Lower, Upper}
use Rattle.sweep_tri.proofs.Balance.Along.{along_reverse, with_last, along_front, along_push, along_push_two, along_turned}
use Rattle.sweep_tri.proofs.Balance.Steps.{gaps_inserted, gaps_removed, gaps_replaced, none_begins, one_begins, two_begin}
use Rattle.sweep_tri.proofs.Regions.{left_ends, near_chain}
use Rattle.sweep_tri.specs.Gaps.{last, before_last, gap_at, no_gap}
use Rattle.sweep_tri.specs.Meeting.{AreFilled, beside_front, closed_at, left_at, past_diagonal, region_from, split_above, split_below}
use Rattle.sweep_tri.specs.Meeting.{with_vertex, gap_of}
use Rattle.sweep_tri.specs.Open.{IsOpen, IsOpenGap}
use Rattle.sweep_tri.specs.Passing.{AreBeside}
use Rattle.sweep_tri.specs.Region.{Chains, IsClosedRegion, boundary, seen_from}
use Rattle.sweep_tri.specs.Sums.{sum_region, sum_high, AreBalanced, sum_gap}
use Rattle.sweep_tri.specs.declared.gap.Gap.{Gap}

-- a list of two items or more is its first, its inner ones and its last
pub with_ends : (c : List ℕ) → 2 ≤ length c → c ≡ get_or c 0 0 ∷ (take (length c - 2) (drop 1 c) ++ last c ∷ [])
with_ends [] two = absurd (omega (arith, two))
with_ends (x ∷ []) two = absurd (omega (arith, two))
with_ends (x ∷ y ∷ ys) two =
    let rest = y ∷ ys in
    let inner : length (x ∷ rest) - 2 ≡ length rest - 1 = omega arith in
    let end : length (x ∷ rest) - 1 ≡ suc (length rest - 1) = omega arith in
    ap (λ zs. x ∷ zs) (with_last rest (omega arith))
    ∙ ap (λ n. x ∷ (take n rest ++ last rest ∷ [])) (sym inner)
    ∙ ap (λ n. x ∷ (take (length (x ∷ rest) - 2) rest ++ get_or (x ∷ rest) n 0 ∷ [])) (sym end)

-- the sum over a list of regions
abbrev pub sum_regions : (ℕ → ℕ → ℤ) → List Chains → ℤ
sum_regions φ [] = pos 0
sum_regions φ (c ∷ cs) = sum_region φ c +ℤ sum_regions φ cs

module _ (φ : ℕ → ℕ → ℤ) (odd : IsOdd φ) where
  -- round a ring of two chains from f to l: along the first, and back along the second
  round_of_chains : (f : ℕ) (low up : List ℕ) (l : ℕ)
      → sum_round φ ((f ∷ (low ++ l ∷ [])) ++ reverse up) ≡ sum_from φ f (low ++ l ∷ []) -ℤ sum_from φ f (up ++ l ∷ [])
  round_of_chains f low up l =
      let back = reverse up ++ f ∷ [] in
      let read : ((low ++ l ∷ []) ++ reverse up) ++ f ∷ [] ≡ low ++ l ∷ back =
      append_assoc (low ++ l ∷ []) (reverse up) (f ∷ []) ∙ append_assoc low (l ∷ []) back in
      let backward : reverse (f ∷ (up ++ l ∷ [])) ≡ l ∷ back =
      reverse-append (f ∷ []) (up ++ l ∷ []) ∙ ap (λ xs. xs ++ f ∷ []) (reverse-append up (l ∷ [])) in
      let along_back : sum_along φ (l ∷ back) ≡ sum_along φ (reverse (f ∷ (up ++ l ∷ []))) = ap (sum_along φ) (sym backward) in
      ap (sum_from φ f) read
      ∙ omega (arith, ints, sum_parted φ f low l back, along_back, along_reverse φ odd (f ∷ (up ++ l ∷ [])))

  -- so the boundary of a closed region has its sum
  pub closed_round : (c : Chains) → 2 ≤ length c.lower → 2 ≤ length c.upper → get_or c.lower 0 0 ≡ get_or c.upper 0 0 → last c.lower ≡ last c.upper
      → sum_round φ (boundary c) ≡ sum_region φ c
  closed_round c two_low two_up first end =
      let f = get_or c.upper 0 0 in
      let l = last c.upper in
      let low = take (length c.lower - 2) (drop 1 c.lower) in
      let up = take (length c.upper - 2) (drop 1 c.upper) in
      let lower : c.lower ≡ f ∷ (low ++ l ∷ []) =
      with_ends c.lower two_low ∙ ap (λ x. x ∷ (low ++ last c.lower ∷ [])) first ∙ ap (λ x. f ∷ (low ++ x ∷ [])) end in
      let upper : c.upper ≡ f ∷ (up ++ l ∷ []) = with_ends c.upper two_up in
      let sum_low : sum_along φ c.lower ≡ sum_from φ f (low ++ l ∷ []) = ap (sum_along φ) lower in
      let sum_up : sum_along φ c.upper ≡ sum_from φ f (up ++ l ∷ []) = ap (sum_along φ) upper in
      ap (λ xs. sum_round φ (xs ++ reverse up)) lower
      ∙ omega (arith, ints, round_of_chains f low up l, sum_low, sum_up)

  module _ (corners : List Point) (ranks : List ℕ) where
    -- triangles that fill a closed region have its sum,
    pub filled_sum : (c : Chains) (old new : List Tri) → IsClosedRegion corners ranks c → IsFilled corners (boundary c) old new
        → sum_sides φ new ≡ sum_sides φ old +ℤ sum_region φ c
    filled_sum c old new closed filled =
        let (tris, after, fits) = filled in
        let region = closed.is_region in
        let round = closed_round c region.lower_some region.upper_some region.first closed.last in
        ap (sum_sides φ) after
        ∙ omega (arith, ints, sides_append φ old tris, sides_cancel corners (boundary c) tris fits φ odd, round)

    -- and those that fill several have their sums
    pub all_filled_sum : (cs : List Chains) (old new : List Tri) → All (IsClosedRegion corners ranks) cs → AreFilled corners cs old new
        → sum_sides φ new ≡ sum_sides φ old +ℤ sum_regions φ cs
    all_filled_sum [] old new closed same = ap (sum_sides φ) same ∙ omega (arith, ints)
    all_filled_sum (c ∷ cs) old new closed filled =
        let (between, first, rest) = filled in
        let one = filled_sum c old between (All-head (IsClosedRegion corners ranks) c cs closed) first in
        let others = all_filled_sum cs between new (All-tail (IsClosedRegion corners ranks) c cs closed) rest in
        omega (arith, ints, one, others)

-- regions of two lists are filled one list after the other
pub filled-append : (corners : List Point) (cs ds : List Chains) (old between new : List Tri)
    → AreFilled corners cs old between → AreFilled corners ds between new → AreFilled corners (cs ++ ds) old new
filled-append corners [] ds old between new same filled = rw (← same) filled
filled-append corners (c ∷ cs) ds old between new (middle, first, rest) filled =
    (middle, first, filled-append corners cs ds middle between new rest filled)

-- ---- gaps

-- the chains of a gap have two vertices or more, and two regions meet
abbrev pub AreJoined : Chains → Option Chains → Type 0
AreJoined low None = (2 ≤ length low.lower) × (2 ≤ length low.upper)
AreJoined low (Some high) =
    (2 ≤ length low.lower) × (2 ≤ length low.upper) × (2 ≤ length high.lower) × (2 ≤ length high.upper) × (last low.upper ≡ last high.lower)

-- as in a gap before an event
pub open_joined : (corners : List Point) (ranks : List ℕ) (k : ℕ) (low : Chains) (high : Option Chains) → IsOpen corners ranks k low high
    → AreJoined low high
open_joined corners ranks k low None h = (h.is_region.lower_some, h.is_region.upper_some)
open_joined corners ranks k low (Some high) h =
    (h.low_is_region.lower_some, h.low_is_region.upper_some, h.high_is_region.lower_some, h.high_is_region.upper_some, h.merge)

-- the region that stays open has a vertex on the side where the edge ended
pub left_some : (side : Side) (low : Chains) (high : Option Chains) (v : ℕ) → AreJoined low high
    → 1 ≤ length (seen_from side (left_at side low high v)).lower
left_some Lower low None v (two, _) = omega (arith, two)
left_some Upper low None v (_, two) = omega (arith, two)
left_some Lower low (Some high) v joined = omega (arith, length-append high.lower (v ∷ []))
left_some Upper low (Some high) v joined = omega (arith, length-append low.upper (v ∷ []))

-- the sign with which its chain there counts
abbrev pub sign_of : Side → ℤ
sign_of Lower = pos 1
sign_of Upper = negsuc 0

module _ (φ : ℕ → ℕ → ℤ) where
  -- ---- one region

  -- a region whose chain on this side goes on
  pub with_vertex_sum : (side : Side) (c : Chains) (v : ℕ) → 1 ≤ length (seen_from side c).lower
      → sum_region φ (with_vertex side c v) ≡ sum_region φ c +ℤ sign_of side *ℤ φ (last (seen_from side c).lower) v
  with_vertex_sum Lower c v some = omega (arith, ints, along_push φ c.lower v some)
  with_vertex_sum Upper c v some = omega (arith, ints, along_push φ c.upper v some)

  -- one that begins
  pub region_from_sum : (v a b : ℕ) → sum_region φ (region_from v a b) ≡ φ v a -ℤ φ v b
  region_from_sum v a b = omega (arith, ints)

  -- ---- a gap whose edge on this side ends

  -- two regions that meet at a merge vertex, with the diagonal from there to v in both
  with_diagonal : (low high : Chains) (v : ℕ) → 1 ≤ length low.upper → 1 ≤ length high.lower → last low.upper ≡ last high.lower
      → sum_region φ (with_vertex Upper low v) +ℤ sum_region φ (with_vertex Lower high v) ≡ sum_region φ low +ℤ sum_region φ high
  with_diagonal low high v some_low some_high merge =
      omega (arith, ints, with_vertex_sum Upper low v some_low, with_vertex_sum Lower high v some_high, ap (λ m. φ m v) merge)

  pub met_sum : (side : Side) (low : Chains) (high : Option Chains) (v : ℕ) → AreJoined low high
      → sum_regions φ (closed_at side low high v) +ℤ sum_region φ (left_at side low high v) ≡ sum_region φ low +ℤ sum_high φ high
  met_sum side low None v joined = omega (arith, ints)
  met_sum Lower low (Some high) v (_, some_low, some_high, _, merge) =
      omega (arith, ints, with_diagonal low high v (omega (arith, some_low)) (omega (arith, some_high)) merge)
  met_sum Upper low (Some high) v (_, some_low, some_high, _, merge) =
      omega (arith, ints, with_diagonal low high v (omega (arith, some_low)) (omega (arith, some_high)) merge)

  -- ---- a split

  -- of one region, by a diagonal from the lower chain, or from the upper one
  split_one : (c : Chains) (v a b : ℕ) (from_lower : Bool) → 2 ≤ length c.lower → 2 ≤ length c.upper
      → sum_region φ (if from_lower then beside_front Lower c v a else past_diagonal Upper c v a)
      +ℤ sum_region φ (if from_lower then past_diagonal Lower c v b else beside_front Upper c v b)
      ≡ (sum_region φ c -ℤ φ v a) +ℤ φ v b
  split_one c v a b true two_low two_up = omega (arith, ints, along_front φ c.lower two_low, along_turned φ c.lower v b two_low)
  split_one c v a b false two_low two_up = omega (arith, ints, along_front φ c.upper two_up, along_turned φ c.upper v a two_up)

  pub split_sum : (ranks : List ℕ) (low : Chains) (high : Option Chains) (v a b : ℕ) → AreJoined low high
      → sum_region φ (split_below ranks low high v a) +ℤ sum_region φ (split_above ranks low high v b)
      ≡ ((sum_region φ low +ℤ sum_high φ high) -ℤ φ v a) +ℤ φ v b
  split_sum ranks low None v a b (two_low, two_up) =
      let from_lower = nat_lt (slice_index ranks (before_last low.upper)) (slice_index ranks (before_last low.lower)) in
      omega (arith, ints, split_one low v a b from_lower two_low two_up)
  split_sum ranks low (Some high) v a b (_, two_low, two_high, _, merge) =
      let below = along_push_two φ low.upper v a (omega (arith, two_low)) in
      let above = along_push_two φ high.lower v b (omega (arith, two_high)) in
      omega (arith, ints, below, above, ap (λ m. φ m v) merge)

-- the sum over two lists of regions
regions-append : (φ : ℕ → ℕ → ℤ) (cs ds : List Chains) → sum_regions φ (cs ++ ds) ≡ sum_regions φ cs +ℤ sum_regions φ ds
regions-append φ [] ds = omega (arith, ints)
regions-append φ (c ∷ cs) ds = omega (arith, ints, regions-append φ cs ds)

-- the regions are closed, and triangles that fit them come after those that were there
abbrev pub AreFilledClosed : List Point → List ℕ → List Chains → List Tri → List Tri → Type 0
AreFilledClosed corners ranks cs old new = All (IsClosedRegion corners ranks) cs × AreFilled corners cs old new

module _ (corners : List Point) (order ranks : List ℕ) (are : AreEvents corners order ranks) (three : 3 ≤ length corners)
    (k : ℕ) (within : k < length corners) (gaps : List Gap) (tris : List Tri) (balanced : AreBalanced ranks k gaps tris) where
  -- the vertex of the event
  abbrev v : ℕ
  v = slice_index order k

  -- the regions of the gap at a place
  abbrev low : ℕ → Chains
  low j = (gap_at gaps j).low

  abbrev high : ℕ → Option Chains
  high j = (gap_at gaps j).high

  -- the gap is as before event k,
  abbrev IsOpenAt : ℕ → Type 0
  IsOpenAt j = IsOpenGap corners ranks k (gap_at gaps j)

  -- so its regions meet
  joined : (j : ℕ) → IsOpenAt j → AreJoined (low j) (high j)
  joined j h = open_joined corners ranks k (low j) (high j) h

  -- the sums of triangles that fill closed regions
  filled : (φ : ℕ → ℕ → ℤ) → IsOdd φ → (cs : List Chains) (new : List Tri) → AreFilledClosed corners ranks cs tris new
      → sum_sides φ new ≡ sum_sides φ tris +ℤ sum_regions φ cs
  filled φ odd cs new (closed, fills) = all_filled_sum φ odd corners ranks cs tris new closed fills

  -- ---- two edges begin, to w and, above it, to u

  module _ (w u : ℕ) (beside : AreBeside (length ranks) v w u) (later_w : k < slice_index ranks w) (later_u : k < slice_index ranks u) where
    -- a gap begins at place j
    pub balanced_begins : (j : ℕ) → AreBalanced ranks (k + 1) (insert gaps j (gap_of (region_from v w u))) tris
    balanced_begins j =
        let begun = gap_of (region_from v w u) in
        two_begin corners order ranks are three k within gaps (insert gaps j begun) tris tris balanced w u beside later_w later_u
        (λ φ odd. omega (arith, ints, gaps_inserted φ gaps j begun, region_from_sum φ v w u))

    -- gap i is split, and its upper part inserted at place j
    pub balanced_splits : (i j : ℕ) → i < length gaps → IsOpenAt i
        → AreBalanced ranks (k + 1)
        (insert (set gaps i (gap_of (split_below ranks (low i) (high i) v w))) j (gap_of (split_above ranks (low i) (high i) v u))) tris
    balanced_splits i j inside open_i =
        let below = gap_of (split_below ranks (low i) (high i) v w) in
        let above = gap_of (split_above ranks (low i) (high i) v u) in
        let parts = set gaps i below in
        two_begin corners order ranks are three k within gaps (insert parts j above) tris tris balanced u w
        (elim beside [ inl h ↦ inr (h.1, h.0) | inr h ↦ inl (h.1, h.0) ]) later_u later_w
        (λ φ odd.
        let split = split_sum φ ranks (low i) (high i) v w u (joined i open_i) in
        omega (arith, ints, gaps_inserted φ parts j above, gaps_replaced φ gaps i below inside, split))

  -- ---- one edge ends, and one goes on to w

  module _ (w u : ℕ) (beside : AreBeside (length ranks) v w u) (later_w : k < slice_index ranks w) (not_u : slice_index ranks u ≤ k) where
    -- at gap j on this side
    pub balanced_goes_on : (side : Side) (j : ℕ) → j < length gaps → IsOpenAt j → last (near_chain side (low j) (high j)) ≡ v → (new : List Tri)
        → AreFilledClosed corners ranks (closed_at side (low j) (high j) v) tris new
        → AreBalanced ranks (k + 1) (set gaps j (gap_of (with_vertex side (left_at side (low j) (high j) v) w))) new
    balanced_goes_on side j inside open_j end new fill =
        let left = left_at side (low j) (high j) v in
        let goes_on = gap_of (with_vertex side left w) in
        let some = left_some side (low j) (high j) v (joined j open_j) in
        one_begins corners order ranks are three k within gaps (set gaps j goes_on) tris new balanced w u beside later_w not_u (sign_of side) (unit side)
        (λ φ odd.
        let replaced = gaps_replaced φ gaps j goes_on inside in
        let closed = filled φ odd (closed_at side (low j) (high j) v) new fill in
        let met = met_sum φ side (low j) (high j) v (joined j open_j) in
        let from = ap (λ i. sign_of side *ℤ φ i w) (left_ends side (low j) (high j) v end) in
        omega (arith, ints, replaced, closed, met, with_vertex_sum φ side left w some, from))
      where
        unit : (of : Side) → (sign_of of ≡ pos 1) ⊎ (sign_of of ≡ negsuc 0)
        unit Lower = inl refl
        unit Upper = inr refl

  -- ---- two edges end

  module _ (not_before : slice_index ranks (previous (length ranks) v) ≤ k) (not_after : slice_index ranks (next (length ranks) v) ≤ k) where
    -- gap j ends
    pub balanced_ends : (j : ℕ) → j < length gaps → IsOpenAt j → (new : List Tri)
        → AreFilledClosed corners ranks (closed_at Upper (low j) (high j) v ++ left_at Upper (low j) (high j) v ∷ []) tris new
        → AreBalanced ranks (k + 1) (remove gaps j) new
    balanced_ends j inside open_j new fill =
        let above = closed_at Upper (low j) (high j) v in
        let left = left_at Upper (low j) (high j) v in
        none_begins corners order ranks are three k within gaps (remove gaps j) tris new balanced not_before not_after
        (λ φ odd.
        let closed = filled φ odd (above ++ left ∷ []) new fill in
        let met = met_sum φ Upper (low j) (high j) v (joined j open_j) in
        omega (arith, ints, gaps_removed φ gaps j inside, closed, regions-append φ above (left ∷ []), met))

    -- gap i and, above it, gap j meet
    pub balanced_merges : (i j : ℕ) → i < j → j < length gaps → IsOpenAt i → IsOpenAt j → (new : List Tri)
        → AreFilledClosed corners ranks (closed_at Lower (low j) (high j) v ++ closed_at Upper (low i) (high i) v) tris new
        → AreBalanced ranks (k + 1)
        (set (remove gaps j) i (record { low = left_at Upper (low i) (high i) v; high = Some (left_at Lower (low j) (high j) v) })) new
    balanced_merges i j less inside open_i open_j new fill =
        let both : Gap = record { low = left_at Upper (low i) (high i) v; high = Some (left_at Lower (low j) (high j) v) } in
        let below = closed_at Lower (low j) (high j) v in
        let above = closed_at Upper (low i) (high i) v in
        let inside_i : i < length (remove gaps j) = omega (arith, less, inside, length-remove gaps j inside) in
        let kept : gap_at (remove gaps j) i ≡ gap_at gaps i = get_or-remove_below gaps j no_gap i less inside in
        none_begins corners order ranks are three k within gaps (set (remove gaps j) i both) tris new balanced not_before not_after
        (λ φ odd.
        let replaced = gaps_replaced φ (remove gaps j) i both inside_i in
        let removed = gaps_removed φ gaps j inside in
        let closed = filled φ odd (below ++ above) new fill in
        let met_i = met_sum φ Upper (low i) (high i) v (joined i open_i) in
        let met_j = met_sum φ Lower (low j) (high j) v (joined j open_j) in
        omega (arith, ints, replaced, removed, ap (sum_gap φ) kept, closed, regions-append φ below above, met_i, met_j))
