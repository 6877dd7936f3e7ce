-- Rings that run once round, counterclockwise or clockwise, by their winding numbers and their area. This project's own words
-- for what the textbooks show of simple polygons.
use Rattle.std.specs.Prelude.{◌≡◌, ◌⊎◌, ℕ, ◌<◌, ℤ, pos, negsuc, ◌<ℤ◌, List, length}
use Rattle.plane.specs.Prelude.{IsBefore, IsPoint, Point, Triple}
use Rattle.rings.specs.Edge.{Edge, IsOnSome, edges_of}
use Rattle.rings.specs.Inside.{winding}
use Rattle.rings.specs.Orientation.{doubled_area, turn_at}
use Rattle.rings.specs.Ring.{vertex}

-- each winding number at a rational point on no edge is 0 or s
abbrev pub WindsUpTo : ℤ → List Edge → Type 0
WindsUpTo s es = (x : Triple) → IsPoint x → ¬ IsOnSome es x → (winding es x ≡ pos 0) ⊎ (winding es x ≡ s)

-- the area is positive, and the winding number at each rational point on no edge is 0 or 1
pub record RunsCounterclockwise (ring : List Point) : Type 0 where
  pub area : pos 0 <ℤ doubled_area ring
  pub windings : WindsUpTo (pos 1) (edges_of ring)

-- the area is negative, and the winding number at each rational point on no edge is 0 or -1
pub record RunsClockwise (ring : List Point) : Type 0 where
  pub area : doubled_area ring <ℤ pos 0
  pub windings : WindsUpTo (negsuc 0) (edges_of ring)

-- the ring turns left at vertex i and runs counterclockwise, or turns right there and runs clockwise
abbrev pub RunsAsItTurns : List Point → ℕ → Type 0
RunsAsItTurns ring i =
    ((pos 0 <ℤ turn_at ring i) × RunsCounterclockwise ring) ⊎ ((turn_at ring i <ℤ pos 0) × RunsClockwise ring)

-- no vertex of the ring is before vertex i, by x first and then by y
abbrev pub IsLeastVertex : List Point → ℕ → Type 0
IsLeastVertex ring i = (j : ℕ) → j < length ring → ¬ (IsBefore (vertex ring j) (vertex ring i))
