-- A ring is a list of whole-number points, the vertices of a polygon in the order of its boundary. As in the textbooks.
use Rattle.std.specs.Prelude.{ℕ, ◌+◌, ◌%◌, List, length, slice_index_or, pos}
use Rattle.plane.specs.Prelude.{On, Point, Triple, whole}

abbrev pub origin : Point
origin = record { x = pos 0; y = pos 0 }

-- vertex i, counted round
abbrev pub vertex : List Point → ℕ → Point
vertex ring i = slice_index_or ring (i % length ring) origin

-- the rational point p is on edge i, which goes from vertex i to the next
abbrev pub IsOnEdge : List Point → ℕ → Triple → Type 0
IsOnEdge ring i p = On p (whole (vertex ring i)) (whole (vertex ring (i + 1)))
