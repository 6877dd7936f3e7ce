-- Regions of a polygon between a lower and an upper chain, which rise from their common first vertex. This project's own. No
-- public clause cites this module.
use Rattle.std.specs.List.{All}
use Rattle.std.specs.Prelude.{◌≡◌, ℕ, ◌+◌, ◌-◌, ◌<◌, ◌≤◌, List, ◌++◌, drop, length, reverse, slice_index, slice_index_or, take}
use Rattle.plane.specs.Point.{Point}
use Rattle.mono_fill.specs.declared.side.Side.{Side}
use Rattle.mono_fill.specs.declared.side.Side.TheVariants.{Lower, Upper}
use Rattle.rings.specs.Below.{IsBelow}
use Rattle.rings.specs.Edge.{edge}
use Rattle.rings.specs.Ring.{vertex}

-- the two chains
pub record Chains : Type 0 where
  pub lower : List ℕ
  pub upper : List ℕ

-- a region seen from this side: its chain there stands for the lower one
abbrev pub seen_from : Side → Chains → Chains
seen_from Lower c = c
seen_from Upper c = record { lower = c.upper; upper = c.lower }

-- the path goes from vertex a to vertex b
pub record IsStep (path : List ℕ) (a b : ℕ) : Type 0 where
  pub place : ℕ
  pub in_path : place + 1 < length path
  pub from : slice_index_or path place 0 ≡ a
  pub to : slice_index_or path (place + 1) 0 ≡ b

-- each vertex of the path is before the next, by rank
abbrev pub RisesBy : List ℕ → List ℕ → Type 0
RisesBy ranks path = (a b : ℕ) → IsStep path a b → slice_index ranks a < slice_index ranks b

-- the edges of the one path are below those of the other, where they are over one another
abbrev pub AreBelow : List Point → List ℕ → List ℕ → List ℕ → Type 0
AreBelow corners ranks lower upper =
    (a b c d : ℕ) → IsStep lower a b → IsStep upper c d → slice_index ranks a < slice_index ranks d → slice_index ranks c < slice_index ranks b
    → IsBelow (edge (vertex corners a) (vertex corners b)) (edge (vertex corners c) (vertex corners d))

-- paths share their first vertex, and beside it at most the last of both
abbrev pub ShareEnds : List ℕ → List ℕ → Type 0
ShareEnds lower upper =
    (i j : ℕ) → 0 < i → i < length lower → 0 < j → j < length upper → slice_index_or lower i 0 ≡ slice_index_or upper j 0
    → (i + 1 ≡ length lower) × (j + 1 ≡ length upper)

-- a region: its chains have two vertices or more and rise, the lower one below the upper one
pub record IsRegion (corners : List Point) (ranks : List ℕ) (region : Chains) : Type 0 where
  pub lower_some : 2 ≤ length region.lower
  pub upper_some : 2 ≤ length region.upper
  pub lower_numbers : All (λ v. v < length corners) region.lower
  pub upper_numbers : All (λ v. v < length corners) region.upper
  pub first : slice_index_or region.lower 0 0 ≡ slice_index_or region.upper 0 0
  pub lower_rises : RisesBy ranks region.lower
  pub upper_rises : RisesBy ranks region.upper
  pub below : AreBelow corners ranks region.lower region.upper
  pub apart : ShareEnds region.lower region.upper

-- it is closed: the chains end in one vertex
pub record IsClosedRegion (corners : List Point) (ranks : List ℕ) (region : Chains) : Type 0 where
  pub is_region : IsRegion corners ranks region
  pub last : slice_index_or region.lower (length region.lower - 1) 0 ≡ slice_index_or region.upper (length region.upper - 1) 0

-- the boundary of a closed region, counterclockwise: along the lower chain and back along the upper one
abbrev pub boundary : Chains → List ℕ
boundary region = region.lower ++ reverse (take (length region.upper - 2) (drop 1 region.upper))
