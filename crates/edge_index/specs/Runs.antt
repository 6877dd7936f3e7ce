-- Runs of places of a list of edges, with covers of them. This project's own. Public clauses cite this module by `Candidates` alone.
use Rattle.std.specs.Prelude.{ℕ, ◌<◌, ◌≤◌, List, slice_index}
use Rattle.plane.specs.Point.{Point}
use Rattle.rings.specs.Simple.{HasEqualEnds}
use Rattle.edge_index.specs.Covers.{CoversEdge}
use Rattle.edge_index.specs.declared.runs.Run.{Run}

-- its edges are in the cover, none of them has equal ends, and none is above the last
pub record IsRun (ring : List Point) (edges : List ℕ) (run : Run) : Type 0 where
  pub covered : (k : ℕ) → run.first ≤ k → k < run.end → CoversEdge ring run.cover (slice_index edges k)
  pub differ : (k : ℕ) → run.first ≤ k → k < run.end → HasEqualEnds ring (slice_index edges k) → ⊥
  pub not_above : (k : ℕ) → run.first ≤ k → k < run.end → slice_index edges k ≤ run.last
