-- Names of a path, and parts of the names of a funnel. This project's own.
use Rattle.std.specs.Prelude.{◌≢◌, ℕ, List}
use Rattle.plane.specs.Point.{Point}
use Rattle.rings.specs.Ring.{vertex}
use Rattle.funnels.specs.OpenFunnel.{leftward, rightward}
use Rattle.exact_plane.specs.declared.turns.Spot.{Spot}
use Rattle.exact_plane.specs.declared.turns.Spot.TheVariants.{Corner, Goal, Start}
use Rattle.exact_plane.specs.Names.{name_at}

-- a corner at the start's point or at the goal's is not named as a corner
abbrev pub IsOwnName : List Point → Point → Point → Spot → Type 0
IsOwnName corners start goal (Corner i) = (vertex corners i ≢ start) × (vertex corners i ≢ goal)
IsOwnName corners start goal Start = Unit {0}
IsOwnName corners start goal Goal = Unit {0}

-- so many names from the apex on, to the left, or to the right
abbrev pub left_names : List Spot → ℕ → ℕ → List Spot
left_names names a c = leftward (name_at names) a c

abbrev pub right_names : List Spot → ℕ → ℕ → List Spot
right_names names a c = rightward (name_at names) a c
