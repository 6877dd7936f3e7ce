-- The two pieces of a ring that is cut from one vertex to another. As in the textbooks.
use Rattle.std.specs.Prelude.{◌⊎◌, ◌↔◌, ℕ, ◌+◌, ◌-◌, List, ◌++◌, take, drop}
use Rattle.plane.specs.Prelude.{IsPoint, On, Point, Triple, whole}
use Rattle.rings.specs.Prelude.{IsIn, IsSimple}

-- of a cut from vertex i to a later vertex j: the vertices i to j,
abbrev pub first_piece : List Point → ℕ → ℕ → List Point
first_piece ring i j = take (j - i + 1) (drop i ring)

-- and the vertices from j to the end and on to i
abbrev pub second_piece : List Point → ℕ → ℕ → List Point
second_piece ring i j = drop j ring ++ take (i + 1) ring

-- both pieces are simple; a rational point is in the ring exactly if it is in a piece, and a point in both is on the segment
-- from a to b
pub record IsCutInTwo (ring first second : List Point) (a b : Point) : Type 0 where
  pub first_simple : IsSimple first
  pub second_simple : IsSimple second
  pub covers : (x : Triple) → IsPoint x → IsIn ring x ↔ (IsIn first x ⊎ IsIn second x)
  pub common : (x : Triple) → IsPoint x → IsIn first x → IsIn second x → On x (whole a) (whole b)
