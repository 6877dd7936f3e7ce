-- One edge ends at the event, and one goes on from there.
-- Two edges end at the event: both edges of a gap, or those between two gaps, so that they are one.
use Rattle.std.proofs.Common.{◌≡◌, refl, ap, subst, ◌∙◌, ℕ, ◌+◌, ◌-◌, ◌<◌, ◌≤◌, List, [], ◌∷◌, ◌++◌, length, arith, inl, inr, Some}
use Rattle.std.proofs.lemmas.List.{length-set}
use Rattle.std.specs.List.{All, remove}
use Rattle.std.specs.Prelude.{slice_index, slice_set}
use Rattle.std.proofs.lemmas.List.Edits.{length-remove}
use Rattle.std.proofs.lemmas.List.Elements.{All-append, All-cons, All-nil}
use Rattle.plane.specs.Point.{Point}
use Rattle.rings.specs.Events.{next, previous}
use Rattle.meshes.specs.declared.tri.Tri.{Tri}
use Rattle.mono_fill.specs.declared.side.Side.{Side}
use Rattle.mono_fill.specs.declared.side.Side.TheVariants.{Lower, Upper}
use Rattle.sweep_tri.proofs.Balance.{AreFilledClosed, balanced_goes_on, left_some, open_joined, balanced_ends, balanced_merges}
use Rattle.sweep_tri.proofs.Fronts.{AreBeside, IsNext, beside_swapped, follows_low, follows_up, IsEnd, closes, ends, IsMerge, merges}
use Rattle.sweep_tri.proofs.Regions.{closes as region_closes, far_front, goes_on, left_ends, left_far, near_chain, near_front}
use Rattle.sweep_tri.proofs.Regions.{ends as region_ends, merges as region_merges}
use Rattle.sweep_tri.proofs.Swept.AtEvent.{IsAtEvent, earlier, event_below, event_rank, neighbours_below}
use Rattle.sweep_tri.proofs.Swept.Kept.{front_grown, gap_kept, of_ring-all_filled, all_replaced, all_removed, all_joined}
use Rattle.sweep_tri.specs.Gaps.{front_of, gap_at, last, low_front, up_front}
use Rattle.sweep_tri.specs.Meeting.{AreFilled, closed_at, gap_of, left_at, with_vertex}
use Rattle.sweep_tri.specs.Open.{IsOpenGap}
use Rattle.sweep_tri.specs.Region.{Chains, IsClosedRegion, seen_from}
use Rattle.sweep_tri.specs.Sums.{AreBalanced}
use Rattle.sweep_tri.specs.Swept.{IsSwept}
use Rattle.sweep_tri.specs.declared.gap.Gap.{Gap}

-- the edges of a region with one vertex more on this side: there, and on the other side
front_with : (side : Side) (c : Chains) (w : ℕ) → near_front side (gap_of (with_vertex side c w)) ≡ front_of ((seen_from side c).lower ++ w ∷ [])
front_with Lower c w = refl
front_with Upper c w = refl

front_across : (side : Side) (c : Chains) (w : ℕ) → far_front side (gap_of (with_vertex side c w)) ≡ front_of (seen_from side c).upper
front_across Lower c w = refl
front_across Upper c w = refl

module _ (corners : List Point) (order ranks : List ℕ) (k v : ℕ) (gaps : List Gap) (tris : List Tri) (j : ℕ)
    (at : IsAtEvent corners order ranks k v gaps tris j) (u w : ℕ) (beside : AreBeside (length ranks) v u w)
    (not_later : slice_index ranks u ≤ k) (later : k < slice_index ranks w) where
  -- ---- the edge below gap j ends at v, or the one above the gap before

  pub event_low : j < length gaps → (low_front (gap_at gaps j)).to ≡ v → IsNext corners ranks k v w gaps Lower j
  event_low =
      follows_low corners order ranks at.are at.three at.simple k v (event_below at).0 (event_rank at) gaps at.swept.frontier j at.place u w beside
      (earlier at u w beside not_later) later

  pub event_up : ¬ ((j < length gaps) × ((low_front (gap_at gaps j)).to ≡ v)) → (0 < j) × IsNext corners ranks k v w gaps Upper (j - 1)
  event_up =
      follows_up corners order ranks at.are at.three at.simple k v (event_below at).0 (event_rank at) gaps at.swept.frontier j at.place u w beside
      (earlier at u w beside not_later) later

  -- ---- the one of gap i on this side

  module _ (side : Side) (i : ℕ) (next : IsNext corners ranks k v w gaps side i) where
    -- what is closed is a closed region,
    pub follow_closes : let g = gap_at gaps i in All (IsClosedRegion corners ranks) (closed_at side g.low g.high v)
    follow_closes =
        let g = gap_at gaps i in
        region_closes corners ranks k v (event_below at).1 (event_rank at) side g.low g.high (at.swept.gaps_open i next.inside) next.ends_here

    -- and the rest goes on
    pub swept_follows : (new : List Tri) → (let g = gap_at gaps i in AreFilled corners (closed_at side g.low g.high v) tris new)
        → (let g = gap_at gaps i in IsSwept corners ranks (k + 1) (slice_set gaps i (gap_of (with_vertex side (left_at side g.low g.high v) w))) new)
    swept_follows new filled =
        let g = gap_at gaps i in
        let left = left_at side g.low g.high v in
        let goes = gap_of (with_vertex side left w) in
        let open_g = at.swept.gaps_open i next.inside in
        let some = left_some side g.low g.high v (open_joined corners ranks k g.low g.high open_g) in
        record {
          few = omega (arith, at.swept.few, length-set gaps i goes);
          gaps_open =
              all_replaced (IsOpenGap corners ranks (k + 1)) gaps i goes next.inside
              (goes_on corners order ranks at.are at.three k v (event_below at).1 (event_rank at) g.low g.high open_g side next.ends_here
              next.short w (neighbours_below at u w beside).1 later next.nearer)
              (λ m h other. gap_kept at m h (next.others_go_on m h other));
          frontier =
              next.frontier_after goes
              (front_with side left w ∙ front_grown (seen_from side left).lower v w some (left_ends side g.low g.high v next.ends_here))
              (front_across side left w ∙ ap front_of (left_far side g.low g.high v));
          triangles =
              of_ring-all_filled corners order ranks at.are at.three (closed_at side g.low g.high v) follow_closes tris new filled at.swept.triangles;
          balanced =
              subst (λ x. AreBeside (length ranks) x w u → last (near_chain side g.low g.high) ≡ x
              → AreFilledClosed corners ranks (closed_at side g.low g.high x) tris new
              → AreBalanced ranks (k + 1) (slice_set gaps i (gap_of (with_vertex side (left_at side g.low g.high x) w))) new) at.event
              (λ b end fill. balanced_goes_on corners order ranks at.are at.three k at.within gaps tris at.swept.balanced w u b later not_later
              side i next.inside open_g end new fill) (beside_swapped (length ranks) v u w beside) next.ends_here (follow_closes, filled);
        }

module _ (corners : List Point) (order ranks : List ℕ) (k v : ℕ) (gaps : List Gap) (tris : List Tri) (j : ℕ)
    (at : IsAtEvent corners order ranks k v gaps tris j) (s t : ℕ) (beside : AreBeside (length ranks) v s t)
    (not_s : slice_index ranks s ≤ k) (not_t : slice_index ranks t ≤ k) where
  -- the neighbours come before v
  before_s : slice_index ranks s < k
  before_s = earlier at s t beside not_s

  before_t : slice_index ranks t < k
  before_t = earlier at t s (beside_swapped (length ranks) v s t beside) not_t

  -- neither the vertex before v nor the one after it comes after v
  none_later : (slice_index ranks (previous (length ranks) v) ≤ k) × (slice_index ranks (next (length ranks) v) ≤ k)
  none_later = elim beside [
    | inl h ↦ (subst (λ u. slice_index ranks u ≤ k) h.0 not_s, subst (λ u. slice_index ranks u ≤ k) h.1 not_t)
    | inr h ↦ (subst (λ u. slice_index ranks u ≤ k) h.1 not_t, subst (λ u. slice_index ranks u ≤ k) h.0 not_s)
  ]

  -- where no edge begins, there is a gap j
  pub end_has_gap : j < length gaps
  end_has_gap =
      closes corners order ranks at.are at.three at.simple k v (event_below at).0 (event_rank at) gaps at.swept.frontier j at.place s t beside
      before_s before_t

  -- the edge above it ends at v
  module _ (to : (up_front (gap_at gaps j)).to ≡ v) where
    -- both edges do, and the edges after the event are known
    is_end : IsEnd corners ranks k v gaps j
    is_end =
        ends corners order ranks at.are at.three at.simple k v (event_below at).0 (event_rank at) gaps at.swept.frontier j at.place s t beside
        before_s before_t to

    -- what is closed are closed regions,
    pub end_closes : let g = gap_at gaps j in All (IsClosedRegion corners ranks) (closed_at Upper g.low g.high v ++ left_at Upper g.low g.high v ∷ [])
    end_closes =
        let g = gap_at gaps j in
        let open_g = at.swept.gaps_open j end_has_gap in
        let left = left_at Upper g.low g.high v in
        let Is : Chains → Type 0 = IsClosedRegion corners ranks in
        All-append Is (closed_at Upper g.low g.high v) (left ∷ [])
        (region_closes corners ranks k v (event_below at).1 (event_rank at) Upper g.low g.high open_g to)
        (All-cons Is left []
        (region_ends corners order ranks at.are at.three k v (event_below at).1 (event_rank at) g.low g.high open_g is_end.low_ends_here to)
        (All-nil Is))

    -- and the gap is gone
    pub swept_ends : (new : List Tri)
        → (let g = gap_at gaps j in AreFilled corners (closed_at Upper g.low g.high v ++ left_at Upper g.low g.high v ∷ []) tris new)
        → IsSwept corners ranks (k + 1) (remove gaps j) new
    swept_ends new filled =
        let g = gap_at gaps j in
        let open_g = at.swept.gaps_open j end_has_gap in
        record {
          few = omega (arith, at.swept.few, length-remove gaps j end_has_gap);
          gaps_open = all_removed (IsOpenGap corners ranks (k + 1)) gaps j end_has_gap (λ i h other. gap_kept at i h (is_end.others_go_on i h other));
          frontier = is_end.frontier_after;
          triangles =
              of_ring-all_filled corners order ranks at.are at.three (closed_at Upper g.low g.high v ++ left_at Upper g.low g.high v ∷ []) end_closes
              tris new filled at.swept.triangles;
          balanced =
              subst (λ x. slice_index ranks (previous (length ranks) x) ≤ k → slice_index ranks (next (length ranks) x) ≤ k
              → AreFilledClosed corners ranks (closed_at Upper g.low g.high x ++ left_at Upper g.low g.high x ∷ []) tris new
              → AreBalanced ranks (k + 1) (remove gaps j) new) at.event
              (λ before after fill. balanced_ends corners order ranks at.are at.three k at.within gaps tris at.swept.balanced before after
              j end_has_gap open_g new fill) none_later.0 none_later.1 (end_closes, filled);
        }

  -- the edges between two gaps, above the one before place j and below gap j, end at v
  module _ (not : ¬ ((up_front (gap_at gaps j)).to ≡ v)) where
    is_merge : IsMerge corners ranks k v gaps j
    is_merge =
        merges corners order ranks at.are at.three at.simple k v (event_below at).0 (event_rank at) gaps at.swept.frontier j at.place s t beside
        before_s before_t not

    -- there is a gap before place j
    pub merge_some : 0 < j
    merge_some = is_merge.some

    first_inside : j - 1 < length gaps
    first_inside = omega (arith, merge_some, end_has_gap)

    -- what is closed are closed regions
    pub merge_closes_below : let h = gap_at gaps j in All (IsClosedRegion corners ranks) (closed_at Lower h.low h.high v)
    merge_closes_below =
        let h = gap_at gaps j in
        region_closes corners ranks k v (event_below at).1 (event_rank at) Lower h.low h.high (at.swept.gaps_open j end_has_gap) is_merge.low_ends_here

    pub merge_closes_above : let g = gap_at gaps (j - 1) in All (IsClosedRegion corners ranks) (closed_at Upper g.low g.high v)
    merge_closes_above =
        let g = gap_at gaps (j - 1) in
        region_closes corners ranks k v (event_below at).1 (event_rank at) Upper g.low g.high (at.swept.gaps_open (j - 1) first_inside) is_merge.up_ends_here

    -- and the rest is one gap
    pub swept_merges : (new : List Tri)
        → (let g = gap_at gaps (j - 1) in let h = gap_at gaps j in
        AreFilled corners (closed_at Lower h.low h.high v ++ closed_at Upper g.low g.high v) tris new)
        → (let g = gap_at gaps (j - 1) in let h = gap_at gaps j in IsSwept corners ranks (k + 1)
        (slice_set (remove gaps j) (j - 1) (record { low = left_at Upper g.low g.high v; high = Some (left_at Lower h.low h.high v) })) new)
    swept_merges new filled =
        let i : ℕ = j - 1 in
        let g = gap_at gaps i in
        let h = gap_at gaps j in
        let open_g = at.swept.gaps_open i first_inside in
        let open_h = at.swept.gaps_open j end_has_gap in
        let both : Gap = record { low = left_at Upper g.low g.high v; high = Some (left_at Lower h.low h.high v) } in
        let Is : Chains → Type 0 = IsClosedRegion corners ranks in
        let closed = All-append Is (closed_at Lower h.low h.high v) (closed_at Upper g.low g.high v) merge_closes_below merge_closes_above in
        record {
          few = omega (arith, at.swept.few, length-set (remove gaps j) i both, length-remove gaps j end_has_gap);
          gaps_open =
              all_joined (IsOpenGap corners ranks (k + 1)) gaps j both merge_some end_has_gap
              (region_merges corners order ranks at.are at.three k v (event_below at).1 (event_rank at) g.low h.low g.high h.high open_g open_h
              is_merge.up_ends_here is_merge.above_low is_merge.low_ends_here is_merge.under_up)
              (λ m within others. gap_kept at m within (is_merge.others_go_on m within (λ e. others (inl e)) (λ e. others (inr e))));
          frontier =
              is_merge.frontier_after both (ap front_of (left_far Upper g.low g.high v)) (ap front_of (left_far Lower h.low h.high v));
          triangles =
              of_ring-all_filled corners order ranks at.are at.three (closed_at Lower h.low h.high v ++ closed_at Upper g.low g.high v) closed
              tris new filled at.swept.triangles;
          balanced =
              subst (λ x. slice_index ranks (previous (length ranks) x) ≤ k → slice_index ranks (next (length ranks) x) ≤ k
              → AreFilledClosed corners ranks (closed_at Lower h.low h.high x ++ closed_at Upper g.low g.high x) tris new
              → AreBalanced ranks (k + 1)
              (slice_set (remove gaps j) i (record { low = left_at Upper g.low g.high x; high = Some (left_at Lower h.low h.high x) })) new) at.event
              (λ before after fill. balanced_merges corners order ranks at.are at.three k at.within gaps tris at.swept.balanced before after
              i j (omega (arith, merge_some)) end_has_gap open_g open_h new fill) none_later.0 none_later.1 (closed, filled);
        }
