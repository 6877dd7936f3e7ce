-- Tables of the paths between each two of some points, and the sides that one tells. This project's own.
use Rattle.std.specs.List.{Contains, range_with_len}
use Rattle.std.specs.Prelude.{◌≡◌, ◌≢◌, ℕ, ◌+◌, ◌*◌, ◌^◌, ◌<◌, ◌≤◌, List, [], length, map, slice_index_or}
use Rattle.plane.specs.Pairs.{pair_at, IsPairBefore}
use Rattle.plane.specs.Point.{Point}
use Rattle.rings.specs.Chain.{IsPath, point_at}
use Rattle.hulls.specs.Inner.{AreDistinct}
use Rattle.rel_hull.specs.Hull.{IsSide}

-- how many points there are, and the chains: chain i * count + j goes from point i to point j
pub record Table : Type 0 where
  pub count : ℕ
  pub chains : List (List Point)

abbrev pub chain_at : Table → ℕ → ℕ → List Point
chain_at table i j = slice_index_or table.chains (i * table.count + j) []

-- the points: chain i * count + i begins at point i
abbrev pub table_points : Table → List Point
table_points table = map (λ i. point_at (chain_at table i i) 0) (range_with_len 0 table.count)

-- the table is one of a ring: its chains are the paths between its points, which are distinct, and so few that numbers of chains fit
pub record IsTableOf (ring : List Point) (table : Table) : Type 0 where
  pub some : 1 ≤ table.count
  pub few : table.count < 2 ^ 16
  pub square : length table.chains ≡ table.count * table.count
  pub distinct : AreDistinct (table_points table)
  pub paths : (i j : ℕ) → i < table.count → j < table.count
      → IsPath ring (point_at (table_points table) i) (point_at (table_points table) j) (chain_at table i j)

-- the pairs are exactly the sides of the points, in order
pub record AreSides (ring points : List Point) (pairs : List (ℕ × ℕ)) : Type 0 where
  pub sides : (k : ℕ) → k < length pairs → IsSide ring points (pair_at pairs k).0 (pair_at pairs k).1
  pub all : (s t : ℕ) → IsSide ring points s t → Contains pairs (s, t)
  pub sorted : (k l : ℕ) → k < l → l < length pairs → IsPairBefore (pair_at pairs k) (pair_at pairs l)

-- each chain has fewer than 2^d points
abbrev pub HasChainsBelow : ℕ → Table → Type 0
HasChainsBelow d table = (i j : ℕ) → i < table.count → j < table.count → length (chain_at table i j) < 2 ^ d

-- no two points that follow one another are equal
abbrev pub IsStepping : List Point → Type 0
IsStepping points = (k : ℕ) → k + 1 < length points → point_at points k ≢ point_at points (k + 1)
