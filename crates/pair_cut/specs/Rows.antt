-- Rows of a table of pairs: what comes before each vertex on its path from one of them. No public clause cites this module. This
-- project's own.
use Rattle.std.specs.Prelude.{◌≡◌, ◌≢◌, ◌⊎◌, ℕ, ◌<◌, ◌≤◌, List, [], length, slice_index_or}
use Rattle.plane.specs.Point.{Point}
use Rattle.rings.specs.Ring.{vertex}
use Rattle.pair_cut.specs.Pairs.{IsBeforeVertex, IsMadeFor}
use Rattle.pair_cut.specs.declared.table.TheConstants.{MAX_PAIRED}

-- what every table keeps: it is made for some ring of few vertices
pub record IsTable (before : List (List ℕ)) : Type 0 where
  pub ring : List Point
  pub made : IsMadeFor ring before
  pub few : length before ≤ MAX_PAIRED

-- vertex x comes before vertex j on its path from vertex i; or j is at i, and x is i
abbrev pub IsNumberBefore : List Point → ℕ → ℕ → ℕ → Type 0
IsNumberBefore ring i j x = ((vertex ring j ≡ vertex ring i) × (x ≡ i)) ⊎ IsBeforeVertex ring i j x

-- the row of vertex i
pub record IsRow (ring : List Point) (i : ℕ) (row : List ℕ) : Type 0 where
  pub count : length row ≡ length ring
  pub itself : slice_index_or row i 0 ≡ i
  pub others : (j : ℕ) → j < length ring → i ≢ j → IsBeforeVertex ring i j (slice_index_or row j 0)

-- rows of the first vertices
abbrev pub AreRows : List Point → List (List ℕ) → Type 0
AreRows ring rows = (i : ℕ) → i < length rows → IsRow ring i (slice_index_or rows i [])
