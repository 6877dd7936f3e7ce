-- What holds at an event: the state before it, and the place of its vertex.
-- The state before the first event, and after the last one.
-- What is read of the state: the order of the gaps by a vertex, and the regions of each.
use Rattle.std.proofs.Common.{◌≡◌, ◌⊎◌, ap, ◌∙◌, sym, subst, ℕ, ◌<◌, ◌≤◌, List, length, arith, Option, Some, None, []}
use Rattle.std.specs.Prelude.{slice_index}
use Rattle.plane.specs.Point.{Point, whole}
use Rattle.plane.specs.Turn.{IsLeft}
use Rattle.rings.specs.Events.{AreEvents}
use Rattle.rings.specs.Orientation.{IsCounterclockwise}
use Rattle.rings.specs.Ring.{vertex}
use Rattle.rings.specs.Simple.{IsSimple}
use Rattle.meshes.specs.Fits.{Fits}
use Rattle.meshes.specs.declared.tri.Tri.{Tri}
use Rattle.sweep_tri.proofs.Balance.{balanced_at_end, balanced_at_start}
use Rattle.sweep_tri.proofs.Fronts.{AreBeside, beside_below, beside_rank_differs, event_vertex, turns_left, sorted, frontier_first}
use Rattle.sweep_tri.proofs.Fronts.{frontier_last}
use Rattle.sweep_tri.specs.Frontier.{IsGapPlace, IsAbove}
use Rattle.sweep_tri.specs.Gaps.{gap_at, highest, low_front}
use Rattle.sweep_tri.specs.Open.{IsOpen}
use Rattle.sweep_tri.specs.Region.{Chains, IsRegion}
use Rattle.sweep_tri.specs.Sums.{AreBalanced}
use Rattle.sweep_tri.specs.Swept.{IsSwept}
use Rattle.sweep_tri.specs.declared.gap.Gap.{Gap}

-- event k of a simple ring is vertex v, at place j of the gaps
pub record IsAtEvent (corners : List Point) (order ranks : List ℕ) (k v : ℕ) (gaps : List Gap) (tris : List Tri) (j : ℕ) : Type 0 where
  pub are : AreEvents corners order ranks
  pub three : 3 ≤ length corners
  pub simple : IsSimple corners
  pub within : k < length corners
  pub event : slice_index order k ≡ v
  pub swept : IsSwept corners ranks k gaps tris
  pub place : IsGapPlace corners gaps v j

module _ {corners : List Point} {order ranks : List ℕ} {k v : ℕ} {gaps : List Gap} {tris : List Tri} {j : ℕ}
    (at : IsAtEvent corners order ranks k v gaps tris j) where
  -- the vertex of the event is one of the ring, and has the rank
  pub event_below : (v < length ranks) × (v < length corners)
  event_below =
      let n = at.are.all_ranks in
      let h = (event_vertex corners order ranks at.are at.three k at.within).0 in
      let below : v < length ranks = subst (λ u. u < length ranks) at.event h in
      (below, omega (arith, n, below))

  pub event_rank : slice_index ranks v ≡ k
  event_rank =
      ap (slice_index ranks) (sym at.event) ∙ (event_vertex corners order ranks at.are at.three k at.within).1

  -- a neighbour that is not later is earlier, and both are vertices of the ring
  pub earlier : (u w : ℕ) → AreBeside (length ranks) v u w → slice_index ranks u ≤ k → slice_index ranks u < k
  earlier u w beside not =
      let other = beside_rank_differs corners order ranks at.are at.three v event_below.0 u w beside in
      let differs : ¬ (slice_index ranks u ≡ k) = λ e. other (e ∙ sym event_rank) in
      omega (arith, not, differs)

  pub neighbours_below : (u w : ℕ) → AreBeside (length ranks) v u w → (u < length corners) × (w < length corners)
  neighbours_below u w beside =
      let n = at.are.all_ranks in
      let both = beside_below corners order ranks at.are at.three v event_below.0 u w beside in
      (omega (arith, n, both.0), omega (arith, n, both.1))

module _ (corners : List Point) (order ranks : List ℕ) (k v : ℕ) (gaps : List Gap) (tris : List Tri) (j : ℕ)
    (at : IsAtEvent corners order ranks k v gaps tris j) where
  -- where both neighbours are later, they turn left in one order
  pub both_turn : (a b : ℕ) → AreBeside (length ranks) v a b → k < slice_index ranks a → k < slice_index ranks b
      → IsLeft (whole (vertex corners v)) (whole (vertex corners a)) (whole (vertex corners b))
      ⊎ IsLeft (whole (vertex corners v)) (whole (vertex corners b)) (whole (vertex corners a))
  both_turn a b beside later_a later_b =
      turns_left corners order ranks at.are at.three at.simple v (event_below at).0 a b beside
      (omega (arith, event_rank at, later_a)) (omega (arith, event_rank at, later_b))

-- the regions of an open gap
module _ (corners : List Point) (ranks : List ℕ) (k : ℕ) where
  pub low_region : (low : Chains) (high : Option Chains) → IsOpen corners ranks k low high → IsRegion corners ranks low
  low_region low None gap = gap.is_region
  low_region low (Some high) gap = gap.low_is_region

  high_region : (low : Chains) (high : Option Chains) → IsOpen corners ranks k low high → IsRegion corners ranks (highest low high)
  high_region low None gap = gap.is_region
  high_region low (Some high) gap = gap.high_is_region

module _ (corners : List Point) (order ranks : List ℕ) (k : ℕ) (gaps : List Gap) (tris : List Tri) (swept : IsSwept corners ranks k gaps tris) where
  -- where the vertex of the event is above the edge below a gap, it is above those below the gaps before it
  pub swept_sorted : AreEvents corners order ranks → 3 ≤ length corners → IsSimple corners → (v : ℕ) → k < length corners → slice_index order k ≡ v
      → (i j : ℕ) → i < j → j < length gaps → IsAbove corners (low_front (gap_at gaps j)) v → IsAbove corners (low_front (gap_at gaps i)) v
  swept_sorted are three simple v within event i j less inside above =
      let e = event_vertex corners order ranks are three k within in
      sorted corners order ranks are three simple k v (subst (λ u. u < length ranks) event e.0)
      (ap (slice_index ranks) (sym event) ∙ e.1) gaps swept.frontier i j less inside above

  -- the low part of a gap is a region, and so is the one that reaches up to its upper edge
  pub gap_low_region : (i : ℕ) → i < length gaps → IsRegion corners ranks (let g = gap_at gaps i in g.low)
  gap_low_region i h = let g = gap_at gaps i in low_region corners ranks k g.low g.high (swept.gaps_open i h)

  pub gap_high_region : (i : ℕ) → i < length gaps → IsRegion corners ranks (let g = gap_at gaps i in highest g.low g.high)
  gap_high_region i h = let g = gap_at gaps i in high_region corners ranks k g.low g.high (swept.gaps_open i h)

-- nothing is there before the first event
pub swept_at_start : (corners : List Point) (ranks : List ℕ) → IsSwept corners ranks 0 [] []
swept_at_start corners ranks = record {
  few = omega arith;
  gaps_open = λ j h. absurd (omega (arith, h));
  frontier = frontier_first corners ranks;
  triangles = λ t h. absurd (omega (arith, h));
  balanced = balanced_at_start ranks;
}

-- and after the last one the triangles fit the ring
pub swept_at_end : (corners : List Point) (order ranks : List ℕ) → AreEvents corners order ranks → 3 ≤ length corners → IsSimple corners
    → (gaps : List Gap) (tris : List Tri) → IsSwept corners ranks (length corners) gaps tris → IsCounterclockwise corners → Fits corners tris
swept_at_end corners order ranks are three simple gaps tris swept way =
    let none : gaps ≡ [] = frontier_last corners order ranks are three gaps swept.frontier in
    balanced_at_end corners order ranks are three tris
    (subst (λ gs. AreBalanced ranks (length corners) gs tris) none swept.balanced) simple way swept.triangles
