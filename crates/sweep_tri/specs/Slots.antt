-- The gaps that the sweep line meets as they are kept: in slots, with the numbers of the slots of the open ones in order, and those
-- of the slots that are free. No public clause cites this module.
use Rattle.std.specs.List.{All}
use Rattle.std.specs.Prelude.{◌≡◌, ◌≢◌, ℕ, ◌+◌, ◌<◌, ◌≤◌, List, length, map, slice_index}
use Rattle.plane.specs.Point.{Point}
use Rattle.sweep_tri.specs.Frontier.{IsAbove}
use Rattle.sweep_tri.specs.Gaps.{gap_at, low_front}
use Rattle.sweep_tri.specs.declared.gap.Gap.{Gap}

-- the gaps in the slots with these numbers
abbrev pub gaps_of : List Gap → List ℕ → List Gap
gaps_of slots numbers = map (gap_at slots) numbers

-- the numbers are those of slots, and no two are the same
pub record AreSlotNumbers (slots : List Gap) (numbers : List ℕ) : Type 0 where
  pub below : All (λ i. i < length slots) numbers
  pub apart : (i j : ℕ) → i < j → j < length numbers → slice_index numbers i ≢ slice_index numbers j

-- each slot has an open gap or is free
pub record AreSlots (slots : List Gap) (numbers free : List ℕ) : Type 0 where
  pub taken : AreSlotNumbers slots numbers
  pub left : AreSlotNumbers slots free
  pub apart : All (λ s. All (λ n. n ≢ s) numbers) free
  pub count : length slots ≡ length numbers + length free

-- the lower edge of the gap has corners at its ends
pub record HasLowFront (corners : List Point) (g : Gap) : Type 0 where
  pub some : 2 ≤ length g.low.lower
  pub from : (low_front g).from < length corners
  pub to : (low_front g).to < length corners

-- so have all gaps
abbrev pub HaveLowFronts : List Point → List Gap → Type 0
HaveLowFronts corners gaps = (j : ℕ) → j < length gaps → HasLowFront corners (gap_at gaps j)

-- vertex v is above the lower edges of all gaps before one whose lower edge it is above
abbrev pub AreSortedBy : List Point → List Gap → ℕ → Type 0
AreSortedBy corners gaps v =
    (i j : ℕ) → i < j → j < length gaps → IsAbove corners (low_front (gap_at gaps j)) v → IsAbove corners (low_front (gap_at gaps i)) v
