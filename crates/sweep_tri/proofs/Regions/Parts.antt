-- The parts of a gap: what is open where one of its edges ends, and what is closed.
use Rattle.std.proofs.Common.{◌≡◌, ◌⊎◌, refl, ℕ, zero, suc, ◌<◌, Option, Some, None, List, length, arith}
use Rattle.std.specs.List.{All}
use Rattle.std.specs.Prelude.{slice_index}
use Rattle.plane.specs.Point.{Point}
use Rattle.rings.specs.Ring.{vertex}
use Rattle.mono_fill.specs.Sides.{other_chain_side}
use Rattle.mono_fill.specs.declared.side.Side.{Side}
use Rattle.mono_fill.specs.declared.side.Side.TheVariants.{Lower, Upper}
use Rattle.sweep_tri.proofs.Regions.Halves.{IsHalf, half_is_closed, half_open}
use Rattle.sweep_tri.proofs.Regions.Paths.{last_grown}
use Rattle.sweep_tri.proofs.Regions.Sides.{AreOpen, IsShort, far_chain, near_chain, open_of, pair_of}
use Rattle.sweep_tri.specs.Gaps.{front_edge, front_of, last}
use Rattle.sweep_tri.specs.Meeting.{at_edge, closed_at, left_at}
use Rattle.sweep_tri.specs.Open.{AreTwoRegions, IsOpen}
use Rattle.sweep_tri.specs.Region.{Chains, IsClosedRegion, seen_from}

-- the region that is left where the edge of a gap on this side ends at v has a chain to v there,
pub left_ends : (side : Side) (low : Chains) (high : Option Chains) (v : ℕ) → last (near_chain side low high) ≡ v
    → last (seen_from side (left_at side low high v)).lower ≡ v
left_ends Lower low None v is = is
left_ends Upper low None v is = is
left_ends Lower low (Some high) v is = last_grown high.lower v
left_ends Upper low (Some high) v is = last_grown low.upper v

-- and the other chain of the gap
pub left_far : (side : Side) (low : Chains) (high : Option Chains) (v : ℕ) → (seen_from side (left_at side low high v)).upper ≡ far_chain side low high
left_far Lower low None v = refl
left_far Upper low None v = refl
left_far Lower low (Some high) v = refl
left_far Upper low (Some high) v = refl

module _ (corners : List Point) (ranks : List ℕ) (k : ℕ) where
  -- of two regions the one that is not at the edge on this side, as a half
  pub half_of : (side : Side) (low high : Chains) → AreTwoRegions corners ranks k low high
      → (let s = seen_from side (at_edge (other_chain_side side) low high) in IsHalf corners ranks k side s.lower s.upper)
  half_of Upper low high regions = record {
    pair = pair_of corners ranks Upper low regions.low_is_region;
    merge_before = regions.merge_before;
    outer_before = regions.lower_before;
    outer_to_come = regions.lower_to_come;
    short = regions.above_low;
  }
  half_of Lower low high regions = record {
    pair = pair_of corners ranks Lower high regions.high_is_region;
    merge_before = rw (← regions.merge) regions.merge_before;
    outer_before = rw (← regions.merge) regions.upper_before;
    outer_to_come = regions.upper_to_come;
    short = rw (← regions.merge) regions.under_up;
  }

  module _ (v : ℕ) (v_within : v < length corners) (v_rank : slice_index ranks v ≡ k) where
    -- v is short of the edge of the gap on the far side, or its end
    abbrev pub Reaches : Side → List ℕ → Type 0
    Reaches side far = IsShort side (front_edge corners (front_of far)) (vertex corners v) ⊎ (last far ≡ v)

    -- where the edge on this side ends at v, the region that is left is open,
    pub left_open : (side : Side) (low : Chains) (high : Option Chains) → IsOpen corners ranks k low high → Reaches side (far_chain side low high)
        → (let s = seen_from side (left_at side low high v) in AreOpen corners ranks k side s.lower s.upper)
    left_open Lower low None gap there = open_of corners ranks k Lower low gap
    left_open Upper low None gap there = open_of corners ranks k Upper low gap
    left_open Lower low (Some high) gap there =
        half_open corners ranks k v v_within v_rank Lower high.lower high.upper (half_of Lower low high gap) there
    left_open Upper low (Some high) gap there =
        half_open corners ranks k v v_within v_rank Upper low.upper low.lower (half_of Upper low high gap) there

    -- and the other one is closed
    pub closes : (side : Side) (low : Chains) (high : Option Chains) → IsOpen corners ranks k low high → last (near_chain side low high) ≡ v
        → All (IsClosedRegion corners ranks) (closed_at side low high v)
    closes side low None gap is i d h = absurd (omega arith)
    closes side low (Some high) gap is (suc i) d h = absurd (omega arith)
    closes Lower low (Some high) gap is zero d h =
        half_is_closed corners ranks k v v_within v_rank Upper low.upper low.lower (half_of Upper low high gap) is
    closes Upper low (Some high) gap is zero d h =
        half_is_closed corners ranks k v v_within v_rank Lower high.lower high.upper (half_of Lower low high gap) is
