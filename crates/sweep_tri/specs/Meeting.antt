-- What an event does to the gaps beside it. This project's own. No public clause cites this module.
use Rattle.std.specs.Prelude.{◌≡◌, ℕ, ◌-◌, nat_lt, if◌then◌else◌, Option, Some, None, List, [], ◌∷◌, ◌++◌, length, slice_index, take}
use Rattle.plane.specs.Point.{Point}
use Rattle.mono_fill.specs.Filled.{IsFilled}
use Rattle.mono_fill.specs.Sides.{other_chain_side}
use Rattle.mono_fill.specs.declared.side.Side.{Side}
use Rattle.mono_fill.specs.declared.side.Side.TheVariants.{Lower, Upper}
use Rattle.meshes.specs.declared.tri.Tri.{Tri}
use Rattle.sweep_tri.specs.Gaps.{before_last, last}
use Rattle.sweep_tri.specs.Region.{Chains, boundary, seen_from}
use Rattle.sweep_tri.specs.declared.gap.Gap.{Gap}

-- a region with another vertex at the end of its chain on this side
abbrev pub with_vertex : Side → Chains → ℕ → Chains
with_vertex side c v = let s = seen_from side c in seen_from side (record { lower = s.lower ++ v ∷ []; upper = s.upper })

-- of two regions of a gap the one at its edge on this side
abbrev pub at_edge : Side → Chains → Chains → Chains
at_edge Lower low high = low
at_edge Upper low high = high

-- where the edge of a gap on this side ends at v: of two regions the one there is closed by a diagonal from the merge vertex to v
abbrev pub closed_at : Side → Chains → Option Chains → ℕ → List Chains
closed_at side low None v = []
closed_at side low (Some high) v = with_vertex (other_chain_side side) (at_edge side low high) v ∷ []

-- and the other one stays open
abbrev pub left_at : Side → Chains → Option Chains → ℕ → Chains
left_at side low None v = low
left_at side low (Some high) v = with_vertex side (at_edge (other_chain_side side) low high) v

-- the gap of one region
abbrev pub gap_of : Chains → Gap
gap_of region = record { low = region; high = None }

-- a diagonal from where the edge of a region on this side begins, to v, from where an edge goes to w: what is between them and that edge,
abbrev pub beside_front : Side → Chains → ℕ → ℕ → Chains
beside_front side c v w =
    let path = (seen_from side c).lower in
    seen_from side (record { lower = before_last path ∷ last path ∷ []; upper = before_last path ∷ v ∷ w ∷ [] })

-- and what is past them
abbrev pub past_diagonal : Side → Chains → ℕ → ℕ → Chains
past_diagonal side c v w =
    let s = seen_from side c in seen_from side (record { lower = take (length s.lower - 1) s.lower ++ v ∷ w ∷ []; upper = s.upper })

-- a split at vertex v, from where edges go to a and, above it, to b: of one region the diagonal comes from the later of the
-- vertices where the edges below and above begin
abbrev pub below_latest : List ℕ → Chains → ℕ → ℕ → Chains
below_latest ranks c v a =
    if nat_lt (slice_index ranks (before_last c.upper)) (slice_index ranks (before_last c.lower))
    then beside_front Lower c v a else past_diagonal Upper c v a

abbrev pub above_latest : List ℕ → Chains → ℕ → ℕ → Chains
above_latest ranks c v b =
    if nat_lt (slice_index ranks (before_last c.upper)) (slice_index ranks (before_last c.lower))
    then past_diagonal Lower c v b else beside_front Upper c v b

-- the region below the split vertex, and the one above it
abbrev pub split_below : List ℕ → Chains → Option Chains → ℕ → ℕ → Chains
split_below ranks low None v a = below_latest ranks low v a
split_below ranks low (Some high) v a = record { lower = low.lower; upper = low.upper ++ v ∷ a ∷ [] }

abbrev pub split_above : List ℕ → Chains → Option Chains → ℕ → ℕ → Chains
split_above ranks low None v b = above_latest ranks low v b
split_above ranks low (Some high) v b = record { lower = high.lower ++ v ∷ b ∷ []; upper = high.upper }

-- a region at the vertex v where it begins, with edges to a and, above it, to b
abbrev pub region_from : ℕ → ℕ → ℕ → Chains
region_from v a b = record { lower = v ∷ a ∷ []; upper = v ∷ b ∷ [] }

-- triangles that fit the closed regions come after those that were there
abbrev pub AreFilled : List Point → List Chains → List Tri → List Tri → Type 0
AreFilled corners [] old new = new ≡ old
AreFilled corners (c ∷ cs) old new = (between : List Tri) × IsFilled corners (boundary c) old between × AreFilled corners cs between new
