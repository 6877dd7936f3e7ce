-- Two edges from one vertex, the lower one first. No public clause cites this module.
use Rattle.std.specs.Prelude.{◌≡◌, ◌⊎◌, ℕ, List}
use Rattle.plane.specs.Point.{Point, whole}
use Rattle.plane.specs.Turn.{IsLeft}
use Rattle.rings.specs.Ring.{vertex}
use Rattle.sweep_tri.specs.declared.gap.Fork.{Fork}

-- the turn from v over a to b is to the left
abbrev pub TurnsLeft : List Point → ℕ → ℕ → ℕ → Type 0
TurnsLeft corners v a b = IsLeft (whole (vertex corners v)) (whole (vertex corners a)) (whole (vertex corners b))

-- the edges from v to a and to b, where the turn is to the left the one to b above
abbrev pub IsForkAt : List Point → ℕ → ℕ → ℕ → Fork → Type 0
IsForkAt corners v a b f =
    (f.vertex ≡ v) × (((f.below ≡ a) × (f.above ≡ b) × TurnsLeft corners v a b) ⊎ ((f.below ≡ b) × (f.above ≡ a) × ¬ TurnsLeft corners v a b))
