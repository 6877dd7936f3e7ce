-- Counting crossed edges by a parity. This project's own. No public clause cites this module.
use Rattle.std.specs.Prelude.{◌≡◌, ◌↔◌, ◌%◌, ℕ, Bool, true, not, List, take}
use Rattle.std.specs.Bool.{beq}
use Rattle.plane.specs.Point.{IsPoint, Point, Triple}
use Rattle.rings.specs.Edge.{Edge, IsOnSome, edges_of}
use Rattle.rings.specs.Inside.{crossings}
use Rattle.inside_test.specs.Level.{AreLevels}
use Rattle.inside_test.specs.declared.level.Levels.{Levels}

-- the point is on none of these edges, and the flag says whether an odd number of them is crossed
pub record OddSoFar (es : List Edge) (p : Triple) (is_odd : Bool) : Type 0 where
  pub on_none : IsOnSome es p → ⊥
  pub odd : (is_odd ≡ true) ↔ (crossings es p % 2 ≡ 1)

-- whether an odd number of the edges from number `first` to before `end` is crossed: from the flag for those before, that for these too
abbrev pub IsOddOver : List Point → ℕ → ℕ → Triple → Bool → Type 0
IsOddOver ring first end p odd =
    (is_odd : Bool) → OddSoFar (take first (edges_of ring)) p is_odd → OddSoFar (take end (edges_of ring)) p (not (beq is_odd odd))

-- so it is for a point with these levels
abbrev pub IsOddTo : List Point → Levels → ℕ → ℕ → Bool → Type 0
IsOddTo ring levels first end odd = (p : Triple) → AreLevels levels p → IsPoint p → IsOddOver ring first end p odd
