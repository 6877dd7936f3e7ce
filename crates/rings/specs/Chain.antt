-- Chains of points in a ring, and taut ones. The local property of the path: Lee and Preparata 1984.
use Rattle.std.specs.Prelude.{◌≡◌, ◌↔◌, ℕ, ◌+◌, ◌-◌, ◌<◌, List, length, slice_index_or}
use Rattle.plane.specs.Point.{Point, whole}
use Rattle.rings.specs.Bend.{IsBend}
use Rattle.rings.specs.Inside.{IsIn}
use Rattle.rings.specs.Ring.{origin}
use Rattle.rings.specs.Sees.{Sees}

-- the point at place k of a list, counted from 0
abbrev pub point_at : List Point → ℕ → Point
point_at points k = slice_index_or points k origin

-- place k has a place before it and one after it
pub record IsInner (points : List Point) (k : ℕ) : Type 0 where
  pub not_first : 0 < k
  pub not_last : k + 1 < length points

-- a chain: at least one point, each in the ring, each other than the next and seeing it
pub record IsChain (ring : List Point) (points : List Point) : Type 0 where
  pub some : 0 < length points
  pub inside : (k : ℕ) → k < length points → IsIn ring (whole (point_at points k))
  pub distinct : (k : ℕ) → k + 1 < length points → ¬ (point_at points k ≡ point_at points (k + 1))
  pub sees : (k : ℕ) → k + 1 < length points → Sees ring (whole (point_at points k)) (whole (point_at points (k + 1)))

-- a chain with a bend at each inner point, between the points beside it
pub record IsBentChain (ring : List Point) (points : List Point) : Type 0 where
  pub chain : IsChain ring points
  pub bends : (k : ℕ) → IsInner points k → IsBend ring (point_at points (k - 1)) (point_at points k) (point_at points (k + 1))

-- a taut chain from s to t
pub record IsTaut (ring : List Point) (s t : Point) (points : List Point) : Type 0 where
  pub bent : IsBentChain ring points
  pub first : point_at points 0 ≡ s
  pub last : point_at points (length points - 1) ≡ t
  pub single : s ≡ t → length points ≡ 1

-- the path from s to t: it is the one taut chain, there being no other
abbrev pub IsPath : List Point → Point → Point → List Point → Type 0
IsPath ring s t path = (chain : List Point) → IsTaut ring s t chain ↔ (chain ≡ path)
