-- Inside and outside, by the edges that a ray to the right crosses: the even-odd rule of the textbooks.
use Rattle.std.specs.Int.Signed.{le_z, lt_z}
use Rattle.std.specs.Prelude.{◌≡◌, ◌⊎◌, ℕ, ◌%◌, ℤ, pos, negsuc, ◌+ℤ◌, ◌*ℤ◌, Bool, ◌&&◌, ◌||◌, if◌then◌else◌, List, [], ◌∷◌, count_by}
use Rattle.plane.specs.Prelude.{determinant, Point, Triple, whole}
use Rattle.rings.specs.Edge.{Edge, IsOnSome, edges_of}

-- the ray from p to the right crosses the edge upward: the edge begins at the height of p or below, ends above it, and
-- has p on its left
abbrev pub is_crossed_up : Edge → Triple → Bool
is_crossed_up e p =
    le_z (e.from.y *ℤ p.W) p.Y && lt_z p.Y (e.to.y *ℤ p.W) && lt_z (pos 0) (determinant (whole e.from) (whole e.to) p)

-- it crosses the edge downward: the edge ends at the height of p or below, begins above it, and has p on its right
abbrev pub is_crossed_down : Edge → Triple → Bool
is_crossed_down e p =
    le_z (e.to.y *ℤ p.W) p.Y && lt_z p.Y (e.from.y *ℤ p.W) && lt_z (determinant (whole e.from) (whole e.to) p) (pos 0)

abbrev pub is_crossed : Edge → Triple → Bool
is_crossed e p = is_crossed_up e p || is_crossed_down e p

-- how many edges are crossed
abbrev pub crossings : List Edge → Triple → ℕ
crossings es p = count_by (λ e. is_crossed e p) es

-- In: the rational point is on an edge of the ring, or the number of crossed edges is odd
abbrev pub IsIn : List Point → Triple → Type 0
IsIn ring p = IsOnSome (edges_of ring) p ⊎ (crossings (edges_of ring) p % 2 ≡ 1)

-- the signed crossing of one edge: 1 upward, -1 downward
abbrev pub crossing : Edge → Triple → ℤ
crossing e p = if is_crossed_up e p then pos 1 else if is_crossed_down e p then negsuc 0 else pos 0

-- the winding number: the sum of the signed crossings
abbrev pub winding : List Edge → Triple → ℤ
winding [] p = pos 0
winding (e ∷ es) p = crossing e p +ℤ winding es p
