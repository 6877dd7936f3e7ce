-- Which way round a ring runs, and its reflex vertices. By the shoelace formula of the textbooks.
use Rattle.std.specs.Int.Signed.{lt_z}
use Rattle.std.specs.Prelude.{ℕ, ◌+◌, ◌-◌, ℤ, pos, ◌+ℤ◌, ◌-ℤ◌, ◌*ℤ◌, ◌<ℤ◌, ◌⊎◌, Bool, List, [], ◌∷◌, length, reverse}
use Rattle.plane.specs.Prelude.{determinant, Point, whole}
use Rattle.rings.specs.Edge.{Edge, edges_of}
use Rattle.rings.specs.Ring.{vertex}

-- twice the signed area that the edges sweep out round the origin
abbrev pub swept : List Edge → ℤ
swept [] = pos 0
swept (e ∷ es) = ((e.from.x *ℤ e.to.y) -ℤ (e.to.x *ℤ e.from.y)) +ℤ swept es

-- twice the signed area of a ring, by the shoelace formula: positive where it runs counterclockwise
abbrev pub doubled_area : List Point → ℤ
doubled_area ring = swept (edges_of ring)

abbrev pub IsCounterclockwise : List Point → Type 0
IsCounterclockwise ring = pos 0 <ℤ doubled_area ring

-- it is negative where the ring runs clockwise
abbrev pub IsClockwise : List Point → Type 0
IsClockwise ring = doubled_area ring <ℤ pos 0

abbrev pub is_clockwise : List Point → Bool
is_clockwise ring = lt_z (doubled_area ring) (pos 0)

-- the ring read the other way round, from the same vertex 0
abbrev pub turned_round : List Point → List Point
turned_round [] = []
turned_round (v ∷ vs) = v ∷ reverse vs

-- the determinant of the turn at vertex i, from the vertex before it to the one after it
abbrev pub turn_at : List Point → ℕ → ℤ
turn_at ring i = determinant (whole (vertex ring (i + (length ring - 1)))) (whole (vertex ring i)) (whole (vertex ring (i + 1)))

-- vertex i is reflex: the turn at it is against the orientation of the ring
abbrev pub IsReflex : List Point → ℕ → Type 0
IsReflex ring i =
    (IsCounterclockwise ring × (turn_at ring i <ℤ pos 0)) ⊎ (IsClockwise ring × (pos 0 <ℤ turn_at ring i))
