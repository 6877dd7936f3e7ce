-- The events of a sweep: the vertices of a ring in lexicographic order. The event points of the textbooks.
use Rattle.std.specs.List.{All}
use Rattle.std.specs.Prelude.{◌≡◌, ℕ, ◌+◌, ◌-◌, ◌<◌, nat_lt, if◌then◌else◌, List, length, slice_index}
use Rattle.plane.specs.Prelude.{IsBefore, Point}
use Rattle.rings.specs.Edge.{Edge, edge}
use Rattle.rings.specs.Ring.{vertex}

-- event k is a vertex of rank k, and comes before the next event
pub record IsEvent (ring : List Point) (events ranks : List ℕ) (k : ℕ) : Type 0 where
  pub event_of_rank : slice_index events (slice_index ranks k) ≡ k
  pub rank_of_event : slice_index ranks (slice_index events k) ≡ k
  pub before_next : k + 1 < length ring → IsBefore (vertex ring (slice_index events k)) (vertex ring (slice_index events (k + 1)))

-- each vertex is an event, and has its rank
pub record AreEvents (ring : List Point) (events ranks : List ℕ) : Type 0 where
  pub all_events : length events ≡ length ring
  pub all_ranks : length ranks ≡ length ring
  pub vertices : All (λ v. v < length ring) events
  pub places : All (λ k. k < length ring) ranks
  pub each : (k : ℕ) → k < length ring → IsEvent ring events ranks k

-- the vertex after vertex v of n
abbrev pub next : ℕ → ℕ → ℕ
next n v = if nat_lt (v + 1) n then v + 1 else 0

-- the vertex before it
abbrev pub previous : ℕ → ℕ → ℕ
previous n v = if nat_lt 0 v then v - 1 else n - 1

-- the end of edge e that has the lower rank
abbrev pub first_end : List ℕ → ℕ → ℕ
first_end ranks e = if nat_lt (slice_index ranks e) (slice_index ranks (next (length ranks) e)) then e else next (length ranks) e

-- the other one
abbrev pub last_end : List ℕ → ℕ → ℕ
last_end ranks e = if nat_lt (slice_index ranks e) (slice_index ranks (next (length ranks) e)) then next (length ranks) e else e

-- their ranks
abbrev pub first_rank : List ℕ → ℕ → ℕ
first_rank ranks e = slice_index ranks (first_end ranks e)

abbrev pub last_rank : List ℕ → ℕ → ℕ
last_rank ranks e = slice_index ranks (last_end ranks e)

-- edge e from the one to the other
abbrev pub edge_upward : List Point → List ℕ → ℕ → Edge
edge_upward ring ranks e = edge (vertex ring (first_end ranks e)) (vertex ring (last_end ranks e))
