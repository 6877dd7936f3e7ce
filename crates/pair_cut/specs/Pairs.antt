-- What comes before each vertex on its path from each other one, and the pairs of vertices that see each other: the visibility graph.
-- Paths: Guibas, Hershberger, Leven, Sharir and Tarjan 1987.
use Rattle.std.specs.List.{All, Contains}
use Rattle.std.specs.Prelude.{◌≡◌, ◌≢◌, ◌↔◌, ℕ, ◌<◌, ◌≤◌, List, [], length, map, slice_index_or}
use Rattle.plane.specs.Pairs.{pair_at, IsPairBefore}
use Rattle.plane.specs.Point.{Point, whole}
use Rattle.rings.specs.Chain.{IsPath}
use Rattle.rings.specs.From.{IsPredecessor}
use Rattle.rings.specs.Ring.{vertex}
use Rattle.rings.specs.Sees.{Sees}
use Rattle.rings.specs.Simple.{IsSimple}

-- the most vertices of a ring whose table is made
abbrev pub most_paired : ℕ
most_paired = 1024

-- what a table has for the pair of i and j
abbrev pub pair_before : List (List ℕ) → ℕ → ℕ → ℕ
pair_before before i j = slice_index_or (slice_index_or before i []) j 0

-- a vertex of the ring comes just before vertex j on its path from vertex i
pub record IsBeforeVertex (ring : List Point) (i j x : ℕ) : Type 0 where
  pub in_ring : x < length ring
  pub before : IsPredecessor ring (vertex ring i) (vertex ring j) (vertex ring x)

-- the table is made for a simple ring: for each two different vertices it has what comes before the second on its path from the first
pub record IsMadeFor (ring : List Point) (before : List (List ℕ)) : Type 0 where
  pub some : 3 ≤ length ring
  pub simple : IsSimple ring
  pub rows : length before ≡ length ring
  pub row : (i : ℕ) → i < length ring → length (slice_index_or before i []) ≡ length ring
  pub itself : (i : ℕ) → i < length ring → pair_before before i i ≡ i
  pub others : (i j : ℕ) → i < length ring → j < length ring → i ≢ j → IsBeforeVertex ring i j (pair_before before i j)

-- the vertices with these numbers are the path from vertex i to vertex j
pub record IsPairPath (ring : List Point) (i j : ℕ) (names : List ℕ) : Type 0 where
  pub in_ring : All (λ x. x < length ring) names
  pub path : IsPath ring (vertex ring i) (vertex ring j) (map (vertex ring) names)

-- two vertices see each other
pub record IsSight (ring : List Point) (i j : ℕ) : Type 0 where
  pub order : i < j
  pub in_ring : j < length ring
  pub sees : Sees ring (whole (vertex ring i)) (whole (vertex ring j))

-- the pairs are exactly those of vertices that see each other, in order
pub record AreSights (ring : List Point) (pairs : List (ℕ × ℕ)) : Type 0 where
  pub exactly : (i j : ℕ) → Contains pairs (i, j) ↔ IsSight ring i j
  pub sorted : (k l : ℕ) → k < l → l < length pairs → IsPairBefore (pair_at pairs k) (pair_at pairs l)

-- a ring has one such list
abbrev pub OneSightsLaw : Type 0
OneSightsLaw = (ring : List Point) (one other : List (ℕ × ℕ)) → AreSights ring one → AreSights ring other → one ≡ other
