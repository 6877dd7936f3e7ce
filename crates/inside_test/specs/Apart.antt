-- Edges apart from a segment. This project's own.
use Rattle.std.specs.Prelude.{ℕ, ◌+◌, ◌<◌, ◌≤◌, List}
use Rattle.plane.specs.Point.{Point, whole}
use Rattle.plane.specs.Segment.{Meet}
use Rattle.rings.specs.Ring.{vertex}

-- the segment from a to b meets none of the edges from number `first` to before `end`
abbrev pub MissesEdges : List Point → ℕ → ℕ → Point → Point → Type 0
MissesEdges ring first end a b =
    (k : ℕ) → first ≤ k → k < end → ¬ Meet (whole a) (whole b) (whole (vertex ring k)) (whole (vertex ring (k + 1)))
