-- What a table keeps of its chains, and which points are inner and which pairs are sides by the chains alone. No public clause
-- cites it. This project's own.
use Rattle.std.specs.List.{Contains}
use Rattle.std.specs.Prelude.{◌≡◌, ◌≢◌, ◌⊎◌, ℕ, ◌+◌, ◌-◌, ◌*◌, ◌^◌, ◌<◌, ◌≤◌, List, length, slice_index, take}
use Rattle.plane.specs.Pairs.{IsPairBefore, pair_at}
use Rattle.plane.specs.Point.{Point, whole}
use Rattle.plane.specs.Segment.{On}
use Rattle.rings.specs.Chain.{point_at}
use Rattle.exact_plane.specs.declared.direction.Direction.TheVariants.{Left}
use Rattle.rel_hull.specs.PathTurn.{IsPathTurn}
use Rattle.rel_hull.specs.Table.{IsStepping, Table, chain_at, table_points}

-- x is on a chain
pub record IsOnChain (chain : List Point) (x : Point) : Type 0 where
  pub place : ℕ
  pub within : place + 1 < length chain
  pub on : On (whole x) (whole (point_at chain place)) (whole (point_at chain (place + 1)))

-- x is on the step of a chain that ends with its n-th point
pub record IsOnStep (chain : List Point) (n : ℕ) (x : Point) : Type 0 where
  pub within : n ≤ length chain
  pub on : On (whole x) (whole (point_at chain (n - 2))) (whole (point_at chain (n - 1)))

-- two lists are one up to each place where they have the same point
abbrev pub HaveFronts : List Point → List Point → Type 0
HaveFronts first second = (k : ℕ) → k < length first → k < length second → point_at first k ≡ point_at second k
    → take (k + 1) first ≡ take (k + 1) second

-- what holds of every table: each chain begins at its point, and steps to another point at each place; a point on a chain is on the
-- step of it that has the number of the last step of the chain to the point; and chains from one point do not meet again
pub record KeepsChains (table : Table) : Type 0 where
  pub few : table.count < 2 ^ 16
  pub square : length table.chains ≡ table.count * table.count
  pub some : (i j : ℕ) → i < table.count → j < table.count → 0 < length (chain_at table i j)
  pub begins : (i j : ℕ) → i < table.count → j < table.count → point_at (chain_at table i j) 0 ≡ point_at (table_points table) i
  pub stepping : (i j : ℕ) → i < table.count → j < table.count → IsStepping (chain_at table i j)
  pub long : (a s : ℕ) → a < table.count → s < table.count → a ≢ s → 2 ≤ length (chain_at table a s)
  pub on_step : (a b s : ℕ) → a < table.count → b < table.count → s < table.count → a ≢ s
      → IsOnChain (chain_at table a b) (point_at (table_points table) s)
      → IsOnStep (chain_at table a b) (length (chain_at table a s)) (point_at (table_points table) s)
  pub fronts : (s t u : ℕ) → s < table.count → t < table.count → u < table.count → HaveFronts (chain_at table s t) (chain_at table s u)

-- point s is on the chain from point a to another
pub record IsPassedFrom (table : Table) (a s : ℕ) : Type 0 where
  pub b : ℕ
  pub in_table : b < table.count
  pub not_a : b ≢ a
  pub not_s : b ≢ s
  pub on : IsOnChain (chain_at table a b) (point_at (table_points table) s)

-- point s is on the chain between two others
pub record IsOnSomeChain (table : Table) (s : ℕ) : Type 0 where
  pub a : ℕ
  pub in_table : a < table.count
  pub not_s : a ≢ s
  pub passes : IsPassedFrom table a s

-- a list of the numbers below n that are not such, in order
pub record AreOthersBelow (Is : ℕ → Type 0) (n : ℕ) (list : List ℕ) : Type 0 where
  pub below : (s : ℕ) → Contains list s → s < n
  pub none : (s : ℕ) → Contains list s → ¬ Is s
  pub all : (s : ℕ) → s < n → ¬ Is s → Contains list s
  pub ascending : (k l : ℕ) → k < l → l < length list → slice_index list k < slice_index list l

-- the numbers below n of points that are on no such chain, in order
abbrev pub AreOuterBelow : Table → ℕ → List ℕ → Type 0
AreOuterBelow table = AreOthersBelow (IsOnSomeChain table)

-- point u is one of the ends of the chain from s to t, or to the left of it
abbrev pub IsLeftOf : Table → ℕ → ℕ → ℕ → Type 0
IsLeftOf table s t u = u ≢ s → u ≢ t → IsPathTurn (chain_at table s t) (chain_at table s u) Left

-- seen from s, another point t is not to the left of an end; s itself is none
abbrev pub ComesFirst : Table → ℕ → ℕ → ℕ → Type 0
ComesFirst table s end t = (t ≢ s) × ((end ≡ s) ⊎ (¬ IsLeftOf table s end t))

-- a pair of different outer points is a side: all outer points are to the left of its chain
pub record IsToldSide (table : Table) (outer : List ℕ) (pair : ℕ × ℕ) : Type 0 where
  pub first : Contains outer pair.0
  pub second : Contains outer pair.1
  pub different : pair.0 ≢ pair.1
  pub left : (u : ℕ) → Contains outer u → IsLeftOf table pair.0 pair.1 u

-- a side that is told goes from point s
abbrev pub StartsTold : Table → List ℕ → ℕ → Type 0
StartsTold table outer s = (t : ℕ) × IsToldSide table outer (s, t)

-- the side that goes from point s ends at t
pub record IsOneEnd (table : Table) (outer : List ℕ) (s t : ℕ) : Type 0 where
  pub told : IsToldSide table outer (s, t)
  pub only : (u : ℕ) → IsToldSide table outer (s, u) → t ≡ u

-- point s is the least that one goes from
pub record IsFirstStart (table : Table) (outer : List ℕ) (s : ℕ) : Type 0 where
  pub starts : StartsTold table outer s
  pub least : (r : ℕ) → StartsTold table outer r → s ≤ r

-- the pairs are exactly the sides that come before a pair, in order
pub record AreSidesBefore (table : Table) (outer : List ℕ) (bound : ℕ × ℕ) (pairs : List (ℕ × ℕ)) : Type 0 where
  pub told : (pair : ℕ × ℕ) → Contains pairs pair → IsToldSide table outer pair
  pub before : (pair : ℕ × ℕ) → Contains pairs pair → IsPairBefore pair bound
  pub all : (pair : ℕ × ℕ) → IsToldSide table outer pair → IsPairBefore pair bound → Contains pairs pair
  pub sorted : (k l : ℕ) → k < l → l < length pairs → IsPairBefore (pair_at pairs k) (pair_at pairs l)
