-- Climbs from the ends of a door to its apex, by what comes before each vertex. No public clause cites this module. This project's own.
use Rattle.std.specs.Prelude.{◌≡◌, ◌≢◌, ◌↔◌, ℕ, ◌+◌, ◌-◌, ◌<◌, ◌≤◌, min, max, List, length, slice_index, Option, Some, None}
use Rattle.plane.specs.Point.{Point, whole}
use Rattle.rings.specs.Chain.{point_at}
use Rattle.rings.specs.Ring.{vertex}
use Rattle.funnels.specs.Funnel.{IsReachedFrom}
use Rattle.exact_plane.specs.Direction.{turn_of}
use Rattle.exact_plane.specs.declared.direction.Direction.{Direction}
use Rattle.pair_cut.specs.declared.climb.Tangent.{Tangent}

-- x is the number of the vertex at a point
abbrev pub IsVertexAt : List Point → ℕ → Point → Type 0
IsVertexAt ring x p = (x < length ring) × (vertex ring x ≡ p)

-- ---- one climb

-- from one vertex up to another go so many points: what comes before each but the last is the next one, and the last one alone is the apex
pub record IsClimb (ring : List Point) (before : List ℕ) (end apex : ℕ) (points : ℕ → Point) (count : ℕ) : Type 0 where
  pub vertices : length before ≡ length ring
  pub some : 0 < count
  pub few : count ≤ length ring
  pub first : IsVertexAt ring end (points 0)
  pub goes_up : (k x : ℕ) → k + 1 < count → IsVertexAt ring x (points k) → IsVertexAt ring (slice_index before x) (points (k + 1))
  pub ends : (k x : ℕ) → k < count → IsVertexAt ring x (points k) → (x ≡ apex) ↔ (k + 1 ≡ count)

-- the turn to y over the point at place k, from the one above
abbrev pub turn_over : (ℕ → Point) → Point → ℕ → Direction
turn_over points y k = turn_of (whole (points (k + 1))) (whole (points k)) (whole y)

-- the vertex at the first point below the last over which the turn to y is to this side; or none
abbrev pub IsTangentVertex : List Point → (ℕ → Point) → ℕ → Point → Direction → Option ℕ → Type 0
IsTangentVertex ring points count y side None = (j : ℕ) → j + 1 < count → turn_over points y j ≢ side
IsTangentVertex ring points count y side (Some x) = (k : ℕ) × (k + 1 < count) × IsVertexAt ring x (points k) × (turn_over points y k ≡ side)
    × ((j : ℕ) → j < k → turn_over points y j ≢ side)

-- ---- both climbs

-- the points of a funnel, with its apex at a place, from its left end and from its right end up to the apex
abbrev pub from_left : List Point → ℕ → Point
from_left points k = point_at points k

abbrev pub from_right : List Point → ℕ → Point
from_right points k = point_at points (length points - 1 - k)

pub record AreClimbs (ring : List Point) (before : List ℕ) (left right apex : ℕ) (points : List Point) (place : ℕ) : Type 0 where
  pub within : place < length points
  pub few : length points ≤ length ring
  pub at_apex : IsVertexAt ring apex (point_at points place)
  pub on_left : IsClimb ring before left apex (from_left points) (place + 1)
  pub on_right : IsClimb ring before right apex (from_right points) (length points - place)

-- y is reached from a vertex of the funnel; and on either side of the way to y the next funnel's apex
pub record IsTangent (ring points : List Point) (apex : ℕ) (y : Point) (t : Tangent) : Type 0 where
  pub place : ℕ
  pub reached : IsReachedFrom points apex place (whole y)
  pub near : IsVertexAt ring t.near (point_at points place)
  pub right : IsVertexAt ring t.right (point_at points (min apex place))
  pub left : IsVertexAt ring t.left (point_at points (max apex place))
