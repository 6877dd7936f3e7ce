-- An event that the sweep passes: what it needs of the state, and what it takes.
-- An event by its kind: two edges begin, one ends and one goes on, or two end.
-- The steps that an event takes: at most 200 for each binary digit of the number of vertices.
-- The state before an event, and the place of its vertex.
-- The events of a sweep, one after the other.
use Rattle.std.proofs.Common.{◌≡◌, Result, Ok, Err, sym, subst, ℕ, ◌+◌, ◌-◌, ◌<◌, ◌≤◌, List, length, arith, ◌^◌, [], refl, ◌*◌, inl, inr}
use Rattle.std.proofs.Common.{Some, ◌∷◌, ◌++◌}
use Rattle.std.proofs.lemmas.Result.{on_ok_weaker}
use Rattle.std.specs.Prelude.{OnOk, slice_index, slice_set}
use Rattle.std.specs.List.{insert, All, remove}
use Rattle.plane.specs.Point.{Point}
use Rattle.rings.specs.Events.{AreEvents, next, previous}
use Rattle.rings.specs.Simple.{IsSimple}
use Rattle.meshes.specs.declared.tri.Tri.{Tri}
use Rattle.shared_seq.proofs.Digits.{binary_digits_mono}
use Rattle.shared_seq.specs.Digits.{binary_digits}
use Rattle.mono_fill.specs.declared.side.Side.{Side}
use Rattle.mono_fill.specs.declared.side.Side.TheVariants.{Lower, Upper}
use Rattle.sweep_tri.proofs.Fronts.{beside_swapped, IsNext}
use Rattle.sweep_tri.proofs.Swept.{IsAtEvent, gap_high_region, gap_low_region, swept_sorted, swept_at_start, both_turn, swept_splits}
use Rattle.sweep_tri.proofs.Swept.{swept_starts, event_low, event_up, follow_closes, swept_follows, end_closes, end_has_gap}
use Rattle.sweep_tri.proofs.Swept.{merge_closes_above, merge_closes_below, merge_some, swept_ends, swept_merges}
use Rattle.sweep_tri.specs.Forks.{IsForkAt, TurnsLeft}
use Rattle.sweep_tri.specs.Frontier.{IsGapPlace, IsUnder}
use Rattle.sweep_tri.specs.Gaps.{before_last, gap_at, highest, up_front, low_front}
use Rattle.sweep_tri.specs.Meeting.{gap_of, region_from, split_above, split_below, AreFilled, closed_at, left_at, with_vertex}
use Rattle.sweep_tri.specs.Entries.{IsAccounted, IsPaid, event_work}
use Rattle.sweep_tri.specs.Passing.{IsNextEvent, AreBeside, Begins, IsRegularVertex, Finishes}
use Rattle.sweep_tri.specs.Region.{IsRegion, IsClosedRegion}
use Rattle.sweep_tri.specs.Slots.{AreSortedBy}
use Rattle.sweep_tri.specs.Swept.{IsSwept}
use Rattle.sweep_tri.specs.declared.gap.Fork.{Fork}
use Rattle.sweep_tri.specs.declared.gap.Gap.{Gap}

-- the state of the same gaps and triangles
pub swept_same : (corners : List Point) (ranks : List ℕ) (k : ℕ) {gaps others : List Gap} {tris rest : List Tri} → others ≡ gaps → rest ≡ tris
    → IsSwept corners ranks k gaps tris → IsSwept corners ranks k others rest
swept_same corners ranks k {gaps} {others} {tris} same_gaps same_tris swept =
    subst (λ ts. IsSwept corners ranks k others ts) (sym same_tris) (subst (λ gs. IsSwept corners ranks k gs tris) (sym same_gaps) swept)

-- what follows from two facts on success
pub on_ok_both : {A E P Q R : Type 0} (r : Result A E) → OnOk r P → OnOk r Q → (P → Q → R) → OnOk r R
on_ok_both (Ok x) p q f = f p q
on_ok_both (Err e) p q f = p

module _ {corners : List Point} {ranks : List ℕ} {gaps : List Gap} {tris : List Tri} {v : ℕ} (is : IsNextEvent corners ranks gaps tris v) where
  -- the vertex has a rank, and is the event of it
  pub event_of_ranked : slice_index is.ranked.order (slice_index ranks v) ≡ v
  event_of_ranked = (is.ranked.events.each v is.vertex).event_of_rank

  pub ranks_count : length ranks ≡ length corners
  ranks_count = is.ranked.events.all_ranks

  rank_below : slice_index ranks v < length corners
  rank_below = let count = ranks_count in is.ranked.events.places v 0 (omega (arith, count, is.vertex))

  -- there are fewer gaps than vertices
  pub gaps_few : length gaps + 1 ≤ length corners
  gaps_few = omega (arith, is.swept.few, rank_below)

  pub is_sorted : AreSortedBy corners gaps v
  is_sorted =
      swept_sorted corners is.ranked.order ranks (slice_index ranks v) gaps tris is.swept is.ranked.events is.ranked.some is.simple v rank_below
      event_of_ranked

  module _ (j : ℕ) (inside : j < length gaps) where
    -- the low region of a gap has two chains, each of which ends with an edge,
    low_region : IsRegion corners ranks (let g = gap_at gaps j in g.low)
    low_region = gap_low_region corners is.ranked.order ranks (slice_index ranks v) gaps tris is.swept j inside

    pub low_some : let g = gap_at gaps j in 2 ≤ length g.low.lower
    low_some = low_region.lower_some

    pub low_upper_some : let g = gap_at gaps j in 2 ≤ length g.low.upper
    low_upper_some = low_region.upper_some

    pub low_from : let g = gap_at gaps j in before_last g.low.lower < length ranks
    low_from =
        let count = ranks_count in
        let path : List ℕ = let g = gap_at gaps j in g.low.lower in
        omega (arith, count, low_region.lower_numbers (length path - 2) 0 (omega (arith, low_some)))

    pub low_upper_from : let g = gap_at gaps j in before_last g.low.upper < length ranks
    low_upper_from =
        let count = ranks_count in
        let path : List ℕ = let g = gap_at gaps j in g.low.upper in
        omega (arith, count, low_region.upper_numbers (length path - 2) 0 (omega (arith, low_upper_some)))

    -- and so has the region at its upper edge
    highest_region : IsRegion corners ranks (let g = gap_at gaps j in highest g.low g.high)
    highest_region = gap_high_region corners is.ranked.order ranks (slice_index ranks v) gaps tris is.swept j inside

    pub up_some : let g = gap_at gaps j in 2 ≤ length (highest g.low g.high).upper
    up_some = highest_region.upper_some

    pub up_from : (up_front (gap_at gaps j)).from < length corners
    up_from =
        let path : List ℕ = let g = gap_at gaps j in (highest g.low g.high).upper in
        highest_region.upper_numbers (length path - 2) 0 (omega (arith, up_some))

    pub up_to : (up_front (gap_at gaps j)).to < length corners
    up_to =
        let path : List ℕ = let g = gap_at gaps j in (highest g.low g.high).upper in
        highest_region.upper_numbers (length path - 1) 0 (omega (arith, up_some))

  module _ (j : ℕ) (place : IsGapPlace corners gaps v j) where
    pub at_event : IsAtEvent corners is.ranked.order ranks (slice_index ranks v) v gaps tris j
    at_event = record {
      are = is.ranked.events;
      three = is.ranked.some;
      simple = is.simple;
      within = rank_below;
      event = event_of_ranked;
      swept = is.swept;
      place = place;
    }

-- nothing is there before the first event
pub swept_of_none : (corners : List Point) (ranks : List ℕ) {gaps : List Gap} {tris : List Tri} → gaps ≡ [] → tris ≡ [] → IsSwept corners ranks 0 gaps tris
swept_of_none corners ranks no_gap no_tri = swept_same corners ranks 0 no_gap no_tri (swept_at_start corners ranks)

module _ (corners : List Point) (order ranks : List ℕ) (are : AreEvents corners order ranks) (k : ℕ) (within : k < length corners)
    (gaps : List Gap) (tris : List Tri) where
  -- the vertex at a place of the order is the event of that number,
  pub next_event : 3 ≤ length corners → IsSimple corners → length corners < 2 ^ 30 → IsSwept corners ranks k gaps tris
      → IsNextEvent corners ranks gaps tris (slice_index order k)
  next_event three simple few swept =
      let rank = (are.each k within).rank_of_event in
      let count = are.all_events in
      record {
        ranked = record { some = three; order = order; events = are };
        simple = simple;
        few = few;
        vertex = are.vertices k 0 (omega (arith, count, within));
        swept = subst (λ m. IsSwept corners ranks m gaps tris) (sym rank) swept;
      }

  -- and the event after it is the next
  pub event_passed : IsSwept corners ranks (slice_index ranks (slice_index order k) + 1) gaps tris → IsSwept corners ranks (k + 1) gaps tris
  event_passed swept = subst (λ m. IsSwept corners ranks (m + 1) gaps tris) (are.each k within).rank_of_event swept

-- the digits of a number from 3 on
two_digits : binary_digits 3 ≡ 2
unfolding binary_digits
two_digits = refl

digits_at_least : (n : ℕ) → 3 ≤ n → 2 ≤ binary_digits n
digits_at_least n some = omega (arith, two_digits, binary_digits_mono 3 n some)

-- the search for the place, the turn of a fork, and what comes then, with n vertices and m gaps
all_digits : (n m : ℕ) → 3 ≤ n → m + 1 ≤ n
    → binary_digits m + 1 + event_work ≤ 200 * binary_digits n
all_digits n m some more = omega (arith, binary_digits_mono m n (omega (arith, more)), digits_at_least n some)

-- so the account of an event holds with the search for its place, too
pub pass_accounted : {corners : List Point} {ranks : List ℕ} {gaps : List Gap} {tris : List Tri} {v : ℕ} {A E : Type 0} → IsNextEvent corners ranks gaps tris v
    → (result : Result A E) (new : List Gap) (start placed s : ℕ) → placed ≤ start + binary_digits (length gaps) + 1
    → IsAccounted result gaps new event_work placed s → IsAccounted result gaps new (200 * binary_digits (length corners)) start s
pass_accounted {corners} {ranks} {gaps} is result new start placed s first (work, paid) =
    let digits = all_digits (length corners) (length gaps) is.ranked.some (gaps_few is) in (
      omega (arith, first, work, digits),
      on_ok_weaker result (λ (paid : IsPaid gaps new event_work placed s). omega (arith, first, paid, digits)) paid,
    )

module _ {corners : List Point} {ranks : List ℕ} {gaps : List Gap} {tris : List Tri} where
  -- the fork at the vertex has one neighbour below and the other one above
  pub begins_of_fork : {v : ℕ} (is : IsNextEvent corners ranks gaps tris v) (j : ℕ) (place : IsGapPlace corners gaps v j) (a b : ℕ) (f : Fork)
      → AreBeside (length ranks) v a b → slice_index ranks v < slice_index ranks a → slice_index ranks v < slice_index ranks b
      → IsForkAt corners v a b f → Begins corners ranks f
  begins_of_fork {v} is j place a b f beside later_a later_b (at_v, inl (is_a, is_b, left)) =
      rw (at_v, is_a, is_b) (record { beside = beside; below_later = later_a; above_later = later_b; left = left })
  begins_of_fork {v} is j place a b f beside later_a later_b (at_v, inr (is_b, is_a, not_left)) =
      let k : ℕ = slice_index ranks v in
      let left : TurnsLeft corners v b a = elim (both_turn corners is.ranked.order ranks k v gaps tris j (at_event is j place) a b beside later_a later_b) [
        | inl h ↦ absurd (not_left h)
        | inr h ↦ h
      ] in
      rw (at_v, is_b, is_a) (record { beside = beside_swapped (length ranks) v a b beside; below_later = later_b; above_later = later_a; left = left })

  module _ (f : Fork) (is : IsNextEvent corners ranks gaps tris f.vertex) (j : ℕ) (place : IsGapPlace corners gaps f.vertex j) (begins : Begins corners ranks f) where
    -- a gap starts where the vertex is not under the edge above the gap before
    pub swept_of_start : (0 < j → ¬ IsUnder corners (up_front (gap_at gaps (j - 1))) f.vertex)
        → IsSwept corners ranks (slice_index ranks f.vertex + 1) (insert gaps j (gap_of (region_from f.vertex f.below f.above))) tris
    swept_of_start =
        swept_starts corners is.ranked.order ranks (slice_index ranks f.vertex) f.vertex gaps tris j (at_event is j place) f.below f.above
        begins.beside begins.below_later begins.above_later begins.left

    -- else that gap is split
    module _ (some : 0 < j) where
      pub swept_of_split : IsUnder corners (up_front (gap_at gaps (j - 1))) f.vertex
          → (let g = gap_at gaps (j - 1) in IsSwept corners ranks (slice_index ranks f.vertex + 1)
          (insert (slice_set gaps (j - 1) (gap_of (split_below ranks g.low g.high f.vertex f.below))) (j - 1 + 1)
          (gap_of (split_above ranks g.low g.high f.vertex f.above))) tris)
      swept_of_split under =
          let g = gap_at gaps (j - 1) in
          let after : j ≡ j - 1 + 1 = omega (arith, some) in
          subst (λ i. IsSwept corners ranks (slice_index ranks f.vertex + 1)
          (insert (slice_set gaps (j - 1) (gap_of (split_below ranks g.low g.high f.vertex f.below))) i
          (gap_of (split_above ranks g.low g.high f.vertex f.above))) tris) after
          (swept_splits corners is.ranked.order ranks (slice_index ranks f.vertex) f.vertex gaps tris j (at_event is j place) some f.below f.above
          begins.beside begins.below_later begins.above_later begins.left under)

-- ---- one edge ends at an event, and one goes on from there: below a gap, or above one

module _ {corners : List Point} {ranks : List ℕ} {gaps : List Gap} {tris : List Tri} {v : ℕ} (is : IsNextEvent corners ranks gaps tris v)
    (j : ℕ) (place : IsGapPlace corners gaps v j) (w : ℕ) (goes : IsRegularVertex ranks v w) where
  pub next_low : j < length gaps → (low_front (gap_at gaps j)).to ≡ v → IsNext corners ranks (slice_index ranks v) v w gaps Lower j
  next_low =
      event_low corners is.ranked.order ranks (slice_index ranks v) v gaps tris j (at_event is j place) goes.from w goes.beside goes.not_later goes.later

  pub next_up : ¬ ((j < length gaps) × ((low_front (gap_at gaps j)).to ≡ v))
      → (0 < j) × IsNext corners ranks (slice_index ranks v) v w gaps Upper (j - 1)
  next_up =
      event_up corners is.ranked.order ranks (slice_index ranks v) v gaps tris j (at_event is j place) goes.from w goes.beside goes.not_later goes.later

  module _ (side : Side) (i : ℕ) (next : IsNext corners ranks (slice_index ranks v) v w gaps side i) where
    -- what is closed is a closed region,
    pub next_closes : let g = gap_at gaps i in All (IsClosedRegion corners ranks) (closed_at side g.low g.high v)
    next_closes =
        follow_closes corners is.ranked.order ranks (slice_index ranks v) v gaps tris j (at_event is j place) goes.from w goes.beside goes.not_later
        goes.later side i next

    -- and the rest goes on
    pub swept_of_next : (new : List Tri) → (let g = gap_at gaps i in AreFilled corners (closed_at side g.low g.high v) tris new)
        → (let g = gap_at gaps i in
        IsSwept corners ranks (slice_index ranks v + 1) (slice_set gaps i (gap_of (with_vertex side (left_at side g.low g.high v) w))) new)
    swept_of_next =
        swept_follows corners is.ranked.order ranks (slice_index ranks v) v gaps tris j (at_event is j place) goes.from w goes.beside goes.not_later
        goes.later side i next

-- ---- two edges end at an event: those of one gap, or those between two gaps

module _ {corners : List Point} {ranks : List ℕ} {gaps : List Gap} {tris : List Tri} {v : ℕ} (is : IsNextEvent corners ranks gaps tris v)
    (j : ℕ) (place : IsGapPlace corners gaps v j) (finishes : Finishes ranks v) where
  abbrev before : ℕ
  before = previous (length ranks) v

  abbrev after : ℕ
  after = next (length ranks) v

  beside : AreBeside (length ranks) v before after
  beside = inl (refl, refl)

  pub finish_inside : j < length gaps
  finish_inside =
      end_has_gap corners is.ranked.order ranks (slice_index ranks v) v gaps tris j (at_event is j place) before after beside
      finishes.previous_not_later finishes.next_not_later

  -- ---- the edge above gap j ends at v, and so does the one below it

  module _ (to : (up_front (gap_at gaps j)).to ≡ v) where
    pub ending_closes : let g = gap_at gaps j in All (IsClosedRegion corners ranks) (closed_at Upper g.low g.high v ++ left_at Upper g.low g.high v ∷ [])
    ending_closes =
        end_closes corners is.ranked.order ranks (slice_index ranks v) v gaps tris j (at_event is j place) before after beside
        finishes.previous_not_later finishes.next_not_later to

    pub swept_of_end : (new : List Tri)
        → (let g = gap_at gaps j in AreFilled corners (closed_at Upper g.low g.high v ++ left_at Upper g.low g.high v ∷ []) tris new)
        → IsSwept corners ranks (slice_index ranks v + 1) (remove gaps j) new
    swept_of_end =
        swept_ends corners is.ranked.order ranks (slice_index ranks v) v gaps tris j (at_event is j place) before after beside
        finishes.previous_not_later finishes.next_not_later to

  -- ---- it does not, so that two gaps meet

  module _ (not : ¬ ((up_front (gap_at gaps j)).to ≡ v)) where
    pub merging_some : 0 < j
    merging_some =
        merge_some corners is.ranked.order ranks (slice_index ranks v) v gaps tris j (at_event is j place) before after beside
        finishes.previous_not_later finishes.next_not_later not

    pub merging_closes_below : let h = gap_at gaps j in All (IsClosedRegion corners ranks) (closed_at Lower h.low h.high v)
    merging_closes_below =
        merge_closes_below corners is.ranked.order ranks (slice_index ranks v) v gaps tris j (at_event is j place) before after beside
        finishes.previous_not_later finishes.next_not_later not

    pub merging_closes_above : let g = gap_at gaps (j - 1) in All (IsClosedRegion corners ranks) (closed_at Upper g.low g.high v)
    merging_closes_above =
        merge_closes_above corners is.ranked.order ranks (slice_index ranks v) v gaps tris j (at_event is j place) before after beside
        finishes.previous_not_later finishes.next_not_later not

    pub swept_of_merge : (new : List Tri)
        → (let g = gap_at gaps (j - 1) in let h = gap_at gaps j in
        AreFilled corners (closed_at Lower h.low h.high v ++ closed_at Upper g.low g.high v) tris new)
        → (let g = gap_at gaps (j - 1) in let h = gap_at gaps j in IsSwept corners ranks (slice_index ranks v + 1)
        (slice_set (remove gaps j) (j - 1) (record { low = left_at Upper g.low g.high v; high = Some (left_at Lower h.low h.high v) })) new)
    swept_of_merge =
        swept_merges corners is.ranked.order ranks (slice_index ranks v) v gaps tris j (at_event is j place) before after beside
        finishes.previous_not_later finishes.next_not_later not
