-- Simple rings: no two edges clash. The simple polygons of the textbooks; the order of clashes is this project's own.
use Rattle.std.specs.Prelude.{◌≡◌, ℕ, ◌+◌, ◌<◌, ◌⊎◌, List, length}
use Rattle.plane.specs.Point.{IsPoint, IsSame, Point, Triple, whole}
use Rattle.rings.specs.Ring.{IsOnEdge, vertex}

-- edge i has equal ends
abbrev pub HasEqualEnds : List Point → ℕ → Type 0
HasEqualEnds ring i = vertex ring i ≡ vertex ring (i + 1)

-- edges i < j share a rational point other than the vertex where they follow one another: the end of edge i where edge
-- j is the next, or vertex 0, where edge j is the last and edge i the first
pub record SharesPoint (ring : List Point) (i j : ℕ) : Type 0 where
  pub point : Triple
  pub rational : IsPoint point
  pub on_first : IsOnEdge ring i point
  pub on_second : IsOnEdge ring j point
  pub not_between : j ≡ i + 1 → IsSame point (whole (vertex ring j)) → ⊥
  pub not_round : i ≡ 0 → j + 1 ≡ length ring → IsSame point (whole (vertex ring 0)) → ⊥

-- edges i < j clash
abbrev pub Clash : List Point → ℕ → ℕ → Type 0
Clash ring i j = HasEqualEnds ring i ⊎ HasEqualEnds ring j ⊎ SharesPoint ring i j

-- no two edges clash
abbrev pub IsSimple : List Point → Type 0
IsSimple ring = (i j : ℕ) → i < j → j < length ring → Clash ring i j → ⊥

-- the pair (k, l) is less than the pair (i, j), by the first number and then by the second
abbrev pub IsLesserPair : ℕ → ℕ → ℕ → ℕ → Type 0
IsLesserPair k l i j = (k < i) ⊎ ((k ≡ i) × (l < j))

-- edges i < j clash, and no lesser pair does
pub record IsLeastClash (ring : List Point) (i j : ℕ) : Type 0 where
  pub in_order : i < j
  pub in_ring : j < length ring
  pub clash : Clash ring i j
  pub least : (k l : ℕ) → k < l → l < length ring → IsLesserPair k l i j → Clash ring k l → ⊥
