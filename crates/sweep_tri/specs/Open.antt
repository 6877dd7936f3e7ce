-- Gaps between two edges that the sweep line meets, before an event. No public clause cites this module.
use Rattle.std.specs.Prelude.{ℕ, ◌≡◌, ◌+◌, ◌<◌, ◌≤◌, Option, Some, None, List, length, slice_index, slice_index_or}
use Rattle.plane.specs.Point.{Point, whole}
use Rattle.plane.specs.Turn.{IsLeft, IsRight}
use Rattle.rings.specs.Ring.{vertex}
use Rattle.sweep_tri.specs.Gaps.{front_edge, front_of, last}
use Rattle.sweep_tri.specs.Region.{Chains, IsRegion}
use Rattle.sweep_tri.specs.declared.gap.Gap.{Gap}

-- all vertices of the path but the last are before this rank
abbrev pub ComeBefore : List ℕ → ℕ → List ℕ → Type 0
ComeBefore ranks k path = (i : ℕ) → i + 1 < length path → slice_index ranks (slice_index_or path i 0) < k

-- the last one is not
abbrev pub EndsFrom : List ℕ → ℕ → List ℕ → Type 0
EndsFrom ranks k path = k ≤ slice_index ranks (last path)

-- one region, whose chains end in vertices to come
pub record IsOneRegion (corners : List Point) (ranks : List ℕ) (k : ℕ) (region : Chains) : Type 0 where
  pub is_region : IsRegion corners ranks region
  pub lower_before : ComeBefore ranks k region.lower
  pub upper_before : ComeBefore ranks k region.upper
  pub lower_to_come : EndsFrom ranks k region.lower
  pub upper_to_come : EndsFrom ranks k region.upper

-- two regions that meet at a merge vertex, which comes after all others of their outer chains and lies between the edges
pub record AreTwoRegions (corners : List Point) (ranks : List ℕ) (k : ℕ) (low high : Chains) : Type 0 where
  pub low_is_region : IsRegion corners ranks low
  pub high_is_region : IsRegion corners ranks high
  pub merge : last low.upper ≡ last high.lower
  pub merge_before : slice_index ranks (last low.upper) < k
  pub lower_before : ComeBefore ranks (slice_index ranks (last low.upper)) low.lower
  pub upper_before : ComeBefore ranks (slice_index ranks (last low.upper)) high.upper
  pub lower_to_come : EndsFrom ranks k low.lower
  pub upper_to_come : EndsFrom ranks k high.upper
  pub above_low : let e = front_edge corners (front_of low.lower) in IsLeft (whole e.from) (whole e.to) (whole (vertex corners (last low.upper)))
  pub under_up : let e = front_edge corners (front_of high.upper) in IsRight (whole e.from) (whole e.to) (whole (vertex corners (last low.upper)))

-- a gap before event k
abbrev pub IsOpen : List Point → List ℕ → ℕ → Chains → Option Chains → Type 0
IsOpen corners ranks k low None = IsOneRegion corners ranks k low
IsOpen corners ranks k low (Some high) = AreTwoRegions corners ranks k low high

abbrev pub IsOpenGap : List Point → List ℕ → ℕ → Gap → Type 0
IsOpenGap corners ranks k g = IsOpen corners ranks k g.low g.high
