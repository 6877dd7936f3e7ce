-- The vertices of a ring in lexicographic order. The event points of the textbooks.
use Rattle.std.specs.List.{All, Contains}
use Rattle.std.specs.Prelude.{◌≡◌, ℕ, ◌+◌, ◌<◌, List, length, slice_index}
use Rattle.plane.specs.Order.{IsBefore}
use Rattle.plane.specs.Point.{Point}
use Rattle.rings.specs.Ring.{vertex}

-- all vertices by their numbers, each before the next
pub record IsInOrder (ring : List Point) (order : List ℕ) : Type 0 where
  pub all : length order ≡ length ring
  pub vertices : All (λ v. v < length ring) order
  pub each : (v : ℕ) → v < length ring → Contains order v
  pub rises : (k : ℕ) → k + 1 < length order → IsBefore (vertex ring (slice_index order k)) (vertex ring (slice_index order (k + 1)))
