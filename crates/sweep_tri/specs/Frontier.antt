-- The edges that the sweep line meets before an event, each below those after it. No public clause cites this module.
use Rattle.std.specs.Prelude.{◌≡◌, ℕ, ◌<◌, ◌≤◌, List, length, slice_index_or}
use Rattle.plane.specs.Point.{Point, whole}
use Rattle.plane.specs.Turn.{IsLeft, IsRight}
use Rattle.rings.specs.Below.{IsBelow}
use Rattle.rings.specs.Events.{first_end, first_rank, last_end, last_rank}
use Rattle.rings.specs.Ring.{vertex}
use Rattle.sweep_tri.specs.Gaps.{Front, front_edge, gap_at, low_front}
use Rattle.sweep_tri.specs.declared.gap.Gap.{Gap}

-- the edge at a place
abbrev pub front_at : List Front → ℕ → Front
front_at fs i = slice_index_or fs i (record { from = 0; to = 0 })

-- edge e of the ring, from the end with the lower rank
abbrev pub upward : List ℕ → ℕ → Front
upward ranks e = record { from = first_end ranks e; to = last_end ranks e }

-- edge e runs from before event k to it or on
pub record IsMet (ranks : List ℕ) (k e : ℕ) : Type 0 where
  pub is_edge : e < length ranks
  pub begun : first_rank ranks e < k
  pub to_come : k ≤ last_rank ranks e

-- just the edges of the ring that run from before event k to it or on, each below all after it
pub record IsFrontier (corners : List Point) (ranks : List ℕ) (k : ℕ) (fs : List Front) : Type 0 where
  pub edges : (i : ℕ) → i < length fs → (e : ℕ) × IsMet ranks k e × (front_at fs i ≡ upward ranks e)
  pub all : (e : ℕ) → IsMet ranks k e → (i : ℕ) × (i < length fs) × (front_at fs i ≡ upward ranks e)
  pub ordered : (i j : ℕ) → i < j → j < length fs → IsBelow (front_edge corners (front_at fs i)) (front_edge corners (front_at fs j))

-- vertex v is above the edge
abbrev pub IsAbove : List Point → Front → ℕ → Type 0
IsAbove corners f v = let e = front_edge corners f in IsLeft (whole e.from) (whole e.to) (whole (vertex corners v))

-- it is under the edge
abbrev pub IsUnder : List Point → Front → ℕ → Type 0
IsUnder corners f v = let e = front_edge corners f in IsRight (whole e.from) (whole e.to) (whole (vertex corners v))

-- the place of vertex v: it is above the lower edges of the gaps before it, and of no other
pub record IsGapPlace (corners : List Point) (gaps : List Gap) (v place : ℕ) : Type 0 where
  pub inside : place ≤ length gaps
  pub above : (j : ℕ) → j < place → IsAbove corners (low_front (gap_at gaps j)) v
  pub not_above : (j : ℕ) → place ≤ j → j < length gaps → ¬ IsAbove corners (low_front (gap_at gaps j)) v
