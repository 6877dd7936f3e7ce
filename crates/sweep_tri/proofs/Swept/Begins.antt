-- Two edges begin at the event: a gap starts between them, or they begin in a gap, and split it.
use Rattle.std.proofs.Common.{refl, subst, ℕ, ◌+◌, ◌-◌, ◌<◌, List, length, arith, ◌≤◌}
use Rattle.std.proofs.lemmas.List.{length-set}
use Rattle.std.proofs.lemmas.List.Edits.{length-insert}
use Rattle.std.specs.List.{insert}
use Rattle.std.specs.Prelude.{slice_index, slice_set}
use Rattle.plane.specs.Point.{Point, whole}
use Rattle.plane.specs.Turn.{IsLeft}
use Rattle.rings.specs.Ring.{vertex}
use Rattle.meshes.specs.declared.tri.Tri.{Tri}
use Rattle.sweep_tri.proofs.Balance.{balanced_begins, balanced_splits}
use Rattle.sweep_tri.proofs.Fronts.{AreBeside, beside_differ, starts, splits}
use Rattle.sweep_tri.proofs.Regions.{begins, splits_above, splits_below}
use Rattle.sweep_tri.proofs.Swept.AtEvent.{IsAtEvent, event_below, event_rank, neighbours_below}
use Rattle.sweep_tri.proofs.Swept.Kept.{split_above_low, split_above_up, split_below_low, split_below_up, gap_kept, all_inserted}
use Rattle.sweep_tri.proofs.Swept.Kept.{all_replaced}
use Rattle.sweep_tri.specs.Frontier.{IsUnder}
use Rattle.sweep_tri.specs.Gaps.{gap_at, up_front}
use Rattle.sweep_tri.specs.Meeting.{gap_of, region_from, split_above, split_below}
use Rattle.sweep_tri.specs.Open.{IsOpenGap}
use Rattle.sweep_tri.specs.Sums.{AreBalanced}
use Rattle.sweep_tri.specs.Swept.{IsSwept}
use Rattle.sweep_tri.specs.declared.gap.Gap.{Gap}

module _ (corners : List Point) (order ranks : List ℕ) (k v : ℕ) (gaps : List Gap) (tris : List Tri) (j : ℕ)
    (at : IsAtEvent corners order ranks k v gaps tris j) (s t : ℕ) (beside : AreBeside (length ranks) v s t)
    (later_s : k < slice_index ranks s) (later_t : k < slice_index ranks t)
    (left : IsLeft (whole (vertex corners v)) (whole (vertex corners s)) (whole (vertex corners t))) where
  -- v is not under the edge above the gap before
  pub swept_starts : (0 < j → ¬ IsUnder corners (up_front (gap_at gaps (j - 1))) v)
      → IsSwept corners ranks (k + 1) (insert gaps j (gap_of (region_from v s t))) tris
  swept_starts not =
      let region = region_from v s t in
      let sides = neighbours_below at s t beside in
      let differ = beside_differ corners order ranks at.are at.three v (event_below at).0 s t beside in
      let start =
      starts corners order ranks at.are at.three at.simple k v (event_below at).0 (event_rank at) gaps at.swept.frontier j at.place s t beside
      later_s later_t left not in
      record {
        few = omega (arith, at.swept.few, length-insert gaps j (gap_of region) at.place.inside);
        gaps_open =
            all_inserted (IsOpenGap corners ranks (k + 1)) gaps j (gap_of region) at.place.inside
            (begins corners order ranks at.are at.three k v (event_below at).1 (event_rank at) s t sides.0 sides.1 later_s later_t differ start.below)
            (λ i h. gap_kept at i h (start.go_on i h));
        frontier = start.frontier_after (gap_of region) refl refl;
        triangles = at.swept.triangles;
        balanced =
            subst (λ u. AreBeside (length ranks) u s t → AreBalanced ranks (k + 1) (insert gaps j (gap_of (region_from u s t))) tris) at.event
            (λ b. balanced_begins corners order ranks at.are at.three k at.within gaps tris at.swept.balanced s t b later_s later_t j) beside;
      }

-- ---- two edges begin in a gap, and split it

module _ (corners : List Point) (order ranks : List ℕ) (k v : ℕ) (gaps : List Gap) (tris : List Tri) (j : ℕ)
    (at : IsAtEvent corners order ranks k v gaps tris j) (some : 0 < j) where
  -- there is a gap before
  pub split_has_gap : j - 1 < length gaps
  split_has_gap = let inside = at.place.inside in omega (arith, some, inside)

  module _ (s t : ℕ) (beside : AreBeside (length ranks) v s t)
      (later_s : k < slice_index ranks s) (later_t : k < slice_index ranks t)
      (left : IsLeft (whole (vertex corners v)) (whole (vertex corners s)) (whole (vertex corners t))) where
    -- and v is under the edge above it
    pub swept_splits : IsUnder corners (up_front (gap_at gaps (j - 1))) v
        → (let g = gap_at gaps (j - 1) in IsSwept corners ranks (k + 1)
        (insert (slice_set gaps (j - 1) (gap_of (split_below ranks g.low g.high v s))) j (gap_of (split_above ranks g.low g.high v t))) tris)
    swept_splits under =
        let i : ℕ = j - 1 in
        let g = gap_at gaps i in
        let open_g = at.swept.gaps_open i split_has_gap in
        let below = gap_of (split_below ranks g.low g.high v s) in
        let above = gap_of (split_above ranks g.low g.high v t) in
        let parts = slice_set gaps i below in
        let sides = neighbours_below at s t beside in
        let inside : j ≤ length parts = let from = at.place.inside in omega (arith, from, length-set gaps i below) in
        let split =
        splits corners order ranks at.are at.three at.simple k v (event_below at).0 (event_rank at) gaps at.swept.frontier j at.place s t beside
        later_s later_t left some under in
        record {
          few = omega (arith, at.swept.few, length-set gaps i below, length-insert parts j above inside);
          gaps_open =
              all_inserted (IsOpenGap corners ranks (k + 1)) parts j above inside
              (splits_above corners order ranks at.are at.three k v (event_below at).1 (event_rank at) t sides.1 later_t g.low g.high open_g under
              split.below_last)
              (all_replaced (IsOpenGap corners ranks (k + 1)) gaps i below split_has_gap
              (splits_below corners order ranks at.are at.three k v (event_below at).1 (event_rank at) s sides.0 later_s g.low g.high open_g
              split.above_low split.below_first)
              (λ m h other. gap_kept at m h (split.go_on m h)));
          frontier =
              split.frontier_after below above (split_below_low ranks v s g.low g.high) (split_below_up ranks v s g.low g.high)
              (split_above_low ranks v t g.low g.high) (split_above_up ranks v t g.low g.high);
          triangles = at.swept.triangles;
          balanced =
              subst (λ u. AreBeside (length ranks) u s t → AreBalanced ranks (k + 1)
              (insert (slice_set gaps i (gap_of (split_below ranks g.low g.high u s))) j (gap_of (split_above ranks g.low g.high u t))) tris) at.event
              (λ b. balanced_splits corners order ranks at.are at.three k at.within gaps tris at.swept.balanced s t b later_s later_t i j
              split_has_gap open_g) beside;
        }
