-- Places of a list at which it keeps every rule of a chain with bends.
use Rattle.std.specs.Prelude.{◌≡◌, ℕ, ◌+◌, ◌-◌, ◌<◌, List, length}
use Rattle.plane.specs.Point.{Point, whole}
use Rattle.rings.specs.Bend.{IsBend}
use Rattle.rings.specs.Chain.{IsInner, point_at}
use Rattle.rings.specs.Inside.{IsIn}
use Rattle.rings.specs.Sees.{Sees}

-- the list has a bend at place k, if that is inner
abbrev pub IsSoundBend : List Point → List Point → ℕ → Type 0
IsSoundBend ring points k = IsInner points k → IsBend ring (point_at points (k - 1)) (point_at points k) (point_at points (k + 1))

-- every rule is kept at place k
pub record IsSound (ring : List Point) (points : List Point) (k : ℕ) : Type 0 where
  pub distinct : k + 1 < length points → ¬ (point_at points k ≡ point_at points (k + 1))
  pub inside : IsIn ring (whole (point_at points k))
  pub sees : k + 1 < length points → Sees ring (whole (point_at points k)) (whole (point_at points (k + 1)))
  pub bend : IsSoundBend ring points k

-- and at each place before place `end`
abbrev pub AreSoundBefore : List Point → List Point → ℕ → Type 0
AreSoundBefore ring points end = (k : ℕ) → k < end → IsSound ring points k
