-- The segment that cuts a ring at a vertex: from the textbooks' proof that a simple polygon has a diagonal.
use Rattle.std.specs.Prelude.{◌≡◌, ◌⊎◌, ℕ, ◌+◌, ◌-◌, ◌<◌, ◌≤ℤ◌, List, length}
use Rattle.plane.specs.Prelude.{height_over, IsInTriangle, IsLeft, Point, whole}
use Rattle.rings.specs.Ring.{vertex}

-- p and q are the two neighbours of vertex i, named so that the turn from p over vertex i to q is left
pub record IsLeftCorner (ring : List Point) (i : ℕ) (p q : Point) : Type 0 where
  pub neighbours : ((p ≡ vertex ring (i + (length ring - 1))) × (q ≡ vertex ring (i + 1)))
      ⊎ ((p ≡ vertex ring (i + 1)) × (q ≡ vertex ring (i + (length ring - 1))))
  pub left : IsLeft (whole p) (whole (vertex ring i)) (whole q)

-- vertex j is in the closed triangle with the corners p, vertex i and q, and is none of them
pub record IsInCorner (ring : List Point) (i : ℕ) (p q : Point) (j : ℕ) : Type 0 where
  pub in_ring : j < length ring
  pub in_triangle : IsInTriangle p (vertex ring i) q (whole (vertex ring j))
  pub not_first : ¬ (vertex ring j ≡ p)
  pub not_middle : ¬ (vertex ring j ≡ vertex ring i)
  pub not_last : ¬ (vertex ring j ≡ q)

-- vertex k is in that triangle, and no other such vertex is farther from the line through p and q
pub record IsFarthestInCorner (ring : List Point) (i : ℕ) (p q : Point) (k : ℕ) : Type 0 where
  pub in_corner : IsInCorner ring i p q k
  pub farthest : (j : ℕ) → IsInCorner ring i p q j → height_over p q (whole (vertex ring j)) ≤ℤ height_over p q (whole (vertex ring k))

-- the cut at vertex i goes from a to b: between its neighbours, where no other vertex is in the triangle there, or else from
-- vertex i to a farthest vertex in the triangle
pub data IsCutAt (ring : List Point) (i : ℕ) (a b : Point) : Type 0 where
  across : IsLeftCorner ring i a b → ((j : ℕ) → ¬ IsInCorner ring i a b j) → IsCutAt ring i a b
  to_farthest : (p q : Point) (k : ℕ) → IsLeftCorner ring i p q → IsFarthestInCorner ring i p q k → a ≡ vertex ring i → b ≡ vertex ring k
      → IsCutAt ring i a b
