-- An event that the sweep passes: the state before it, and the edges that begin at its vertex. No public clause cites this module.
use Rattle.std.specs.Prelude.{◌≡◌, ◌⊎◌, ℕ, ◌^◌, ◌<◌, ◌≤◌, List, length, slice_index}
use Rattle.plane.specs.Point.{Point}
use Rattle.meshes.specs.declared.tri.Tri.{Tri}
use Rattle.rings.specs.Events.{next, previous}
use Rattle.rings.specs.Simple.{IsSimple}
use Rattle.sweep_tri.specs.Forks.{TurnsLeft}
use Rattle.sweep_tri.specs.Ranked.{IsRanked}
use Rattle.sweep_tri.specs.Swept.{IsSwept}
use Rattle.sweep_tri.specs.declared.gap.Fork.{Fork}
use Rattle.sweep_tri.specs.declared.gap.Gap.{Gap}

-- s and t are the neighbours of v in a ring of n vertices
abbrev pub AreBeside : (n v s t : ℕ) → Type 0
AreBeside n v s t = ((s ≡ previous n v) × (t ≡ next n v)) ⊎ ((s ≡ next n v) × (t ≡ previous n v))

-- vertex v of a simple ring is the next event
pub record IsNextEvent (corners : List Point) (ranks : List ℕ) (gaps : List Gap) (tris : List Tri) (v : ℕ) : Type 0 where
  pub ranked : IsRanked corners ranks
  pub simple : IsSimple corners
  pub few : length corners < 2 ^ 30
  pub vertex : v < length corners
  pub swept : IsSwept corners ranks (slice_index ranks v) gaps tris

-- two edges begin at a fork, the one above left of the one below
pub record Begins (corners : List Point) (ranks : List ℕ) (f : Fork) : Type 0 where
  pub beside : AreBeside (length ranks) f.vertex f.below f.above
  pub below_later : slice_index ranks f.vertex < slice_index ranks f.below
  pub above_later : slice_index ranks f.vertex < slice_index ranks f.above
  pub left : TurnsLeft corners f.vertex f.below f.above

-- one edge ends at v, and one goes on to w
pub record IsRegularVertex (ranks : List ℕ) (v w : ℕ) : Type 0 where
  pub from : ℕ
  pub beside : AreBeside (length ranks) v from w
  pub not_later : slice_index ranks from ≤ slice_index ranks v
  pub later : slice_index ranks v < slice_index ranks w

-- two edges end at v
pub record Finishes (ranks : List ℕ) (v : ℕ) : Type 0 where
  pub previous_not_later : slice_index ranks (previous (length ranks) v) ≤ slice_index ranks v
  pub next_not_later : slice_index ranks (next (length ranks) v) ≤ slice_index ranks v
