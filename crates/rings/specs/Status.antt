-- The status of a sweep: the edges that the sweep line meets, by their numbers, each below the next. As in Shamos and Hoey
-- 1976.
use Rattle.std.specs.List.{All, AllAdjacentBelow, sum_by}
use Rattle.std.specs.Prelude.{◌≡◌, ℕ, ◌-◌, ◌<◌, ◌≤◌, ◌==◌, if◌then◌else◌, List, length, slice_index}
use Rattle.plane.specs.Point.{Point}
use Rattle.rings.specs.Below.{IsBelow}
use Rattle.rings.specs.Events.{edge_upward, first_rank, last_rank}

-- edge e of the ring is below edge f
abbrev pub IsEdgeBelow : List Point → List ℕ → ℕ → ℕ → Type 0
IsEdgeBelow ring ranks e f = IsBelow (edge_upward ring ranks e) (edge_upward ring ranks f)

-- the items are edges, and each is below the next
pub record IsStacked (ring : List Point) (ranks status : List ℕ) : Type 0 where
  pub edges : All (λ e. e < length ranks) status
  pub ordered : AllAdjacentBelow (IsEdgeBelow ring ranks) status (length status)

-- the edge at a place is above the one before it, where there are both
abbrev pub FitsAt : List Point → List ℕ → List ℕ → ℕ → Type 0
FitsAt ring ranks status place =
    0 < place → place < length status → IsEdgeBelow ring ranks (slice_index status (place - 1)) (slice_index status place)

-- 1 for the item itself
abbrev pub one : ℕ → ℕ → ℕ
one e x = if x == e then 1 else 0

-- how often the item is in the list
abbrev pub times : ℕ → List ℕ → ℕ
times e status = sum_by (one e) status

-- an edge between these ranks is there once before event k where it runs from before that event to it or on, and else not
pub record IsCounted (k first last times : ℕ) : Type 0 where
  pub there : first < k → k ≤ last → times ≡ 1
  pub begins_later : k ≤ first → times ≡ 0
  pub ended : last < k → times ≡ 0

-- the status before event k: just the edges that run from before that event to it or on, each below the next
pub record IsStatus (ring : List Point) (ranks : List ℕ) (k : ℕ) (status : List ℕ) : Type 0 where
  pub stacked : IsStacked ring ranks status
  pub counted : (e : ℕ) → e < length ranks → IsCounted k (first_rank ranks e) (last_rank ranks e) (times e status)
