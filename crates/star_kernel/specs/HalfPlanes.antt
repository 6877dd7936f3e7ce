-- The edges in some order, and what is left of the square of all points when the lines of the first of them have cut it. This
-- project's own. No public clause cites this module.
use Rattle.std.specs.Prelude.{◌≡◌, ℕ, ◌+◌, ◌<◌, ◌≤◌, List, length, slice_index_or}
use Rattle.plane.specs.Point.{Point, Triple, whole}
use Rattle.plane.specs.Square.{IsInSquare}
use Rattle.plane.specs.Turn.{IsRight}
use Rattle.rings.specs.Ring.{vertex}
use Rattle.star_kernel.specs.declared.directions.Edge.{Edge}

-- the number of edge i of the list
abbrev pub edge_number_at : List Edge → ℕ → ℕ
edge_number_at edges i = (slice_index_or edges i (record { quarter = 0; turned = 0; number = 0 })).number

-- the edges from number `first` on of a ring with n vertices, by their numbers
pub record AreEdges (first n : ℕ) (edges : List Edge) : Type 0 where
  pub as_many : first + length edges ≡ n
  pub numbered : (i : ℕ) → i < length edges → edge_number_at edges i ≡ first + i

-- all of them, in some order
pub record AreAllEdges (first n : ℕ) (edges : List Edge) : Type 0 where
  pub as_many : first + length edges ≡ n
  pub within : (i : ℕ) → i < length edges → edge_number_at edges i < n
  pub all : (k : ℕ) → first ≤ k → k < n → (i : ℕ) × ((i < length edges) × (edge_number_at edges i ≡ k))

-- p is right of edge k
abbrev pub IsRightOfEdge : List Point → ℕ → Triple → Type 0
IsRightOfEdge ring k p = IsRight (whole (vertex ring k)) (whole (vertex ring (k + 1))) p

-- p is in the square, and right of no edge below a number
abbrev pub IsLeftOfBelow : List Point → ℕ → Triple → Type 0
IsLeftOfBelow ring first p = IsInSquare p × ((k : ℕ) → k < first → ¬ IsRightOfEdge ring k p)

-- nor of the first k edges of a list
abbrev pub IsLeftOfFirst : List Point → ℕ → List Edge → ℕ → Triple → Type 0
IsLeftOfFirst ring first edges k p =
    IsLeftOfBelow ring first p × ((i : ℕ) → i < k → ¬ IsRightOfEdge ring (edge_number_at edges i) p)
