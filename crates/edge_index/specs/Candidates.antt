-- The index of the edges of a list, and which edges it passes over. This project's own.
use Rattle.std.specs.List.{All, Contains}
use Rattle.std.specs.Prelude.{ℕ, ◌+◌, ◌*◌, ◌<◌, ◌≤◌, ◌⊎◌, List, length, slice_index}
use Rattle.plane.specs.Point.{Point, whole}
use Rattle.plane.specs.Segment.{Meet}
use Rattle.rings.specs.Ring.{vertex}
use Rattle.rings.specs.Simple.{HasEqualEnds}
use Rattle.edge_index.specs.Runs.{IsRun}
use Rattle.edge_index.specs.declared.index.EdgeIndex.{EdgeIndex}

-- edges i and e share no point, and edge e has two ends
pub record AreApart (ring : List Point) (i e : ℕ) : Type 0 where
  pub apart : ¬ Meet (whole (vertex ring i)) (whole (vertex ring (i + 1))) (whole (vertex ring e)) (whole (vertex ring (e + 1)))
  pub differ : ¬ HasEqualEnds ring e

-- edge e is no candidate for edge i: it is not above edge i, or the two are apart
abbrev pub IsLeftOut : List Point → ℕ → ℕ → Type 0
IsLeftOut ring i e = (e ≤ i) ⊎ AreApart ring i e

-- no edge is a candidate for edge i at the places from one to before another
abbrev pub AreLeftOut : List Point → List ℕ → ℕ → ℕ → ℕ → Type 0
AreLeftOut ring edges i from to = (k : ℕ) → from ≤ k → k < to → IsLeftOut ring i (slice_index edges k)

-- the edges at the places of an index
abbrev pub edges_of : EdgeIndex → List ℕ
edges_of index = index.edges.items

-- each edge of the ring is at a place, and no number beyond; there are at most twice as many places
pub record ListsEdges (ring : List Point) (edges : List ℕ) : Type 0 where
  pub each : (e : ℕ) → e < length ring → Contains edges e
  pub range : All (λ e. e < length ring) edges
  pub few : length edges ≤ 2 * length ring

-- the index has the edges of the ring, and its runs are those of them
pub record IsEdgeIndex (ring : List Point) (index : EdgeIndex) : Type 0 where
  pub edges : ListsEdges ring (edges_of index)
  pub runs : All (IsRun ring (edges_of index)) index.runs.items
