-- How the stack of a filling goes on. No public clause cites this module. This project's own.
use Rattle.std.specs.List.{All}
use Rattle.std.specs.Prelude.{◌≡◌, ℕ, ◌+◌, ◌-◌, ◌<◌, List, ◌++◌, length, reverse, slice_index}
use Rattle.plane.specs.Point.{Point}
use Rattle.meshes.specs.Fits.{IsCounterclockwiseTri}
use Rattle.meshes.specs.declared.tri.Tri.{Tri}
use Rattle.mono_fill.specs.Sides.{fan_from, triangle}
use Rattle.mono_fill.specs.declared.side.Side.{Side}

-- the old items, with new ones behind them
abbrev pub Extends : List Tri → List Tri → Type 0
Extends old new = (more : List Tri) × (new ≡ old ++ more)

-- the last item
abbrev pub last_of : List ℕ → ℕ
last_of xs = slice_index xs (length xs - 1)

-- some items are gone from the stack with their triangles to x, from the top on
pub record ArePopped (corners : List Point) (side : Side) (x : ℕ) (old new : List ℕ) (tris : List Tri) : Type 0 where
  pub some : 0 < length new
  pub gone : List ℕ
  pub parts : old ≡ new ++ gone
  pub fan : tris ≡ reverse (fan_from side x (last_of new) gone)
  pub counterclockwise : All (IsCounterclockwiseTri corners) tris

-- the two topmost items and x do not turn strictly inward
abbrev pub IsSettled : List Point → Side → ℕ → List ℕ → Type 0
IsSettled corners side x stack = (k : ℕ) → length stack ≡ k + 2
    → ¬ IsCounterclockwiseTri corners (triangle side (slice_index stack k) (slice_index stack (k + 1)) x)
