-- Monotone pieces, whose boundary rises from the least vertex to the greatest and falls back, in lexicographic order. As in Garey,
-- Johnson, Preparata and Tarjan 1978.
use Rattle.std.specs.Prelude.{◌≡◌, ℕ, ◌+◌, ◌<◌, ◌↔◌, List, [], ◌∷◌, ◌++◌, length, reverse, slice_index, slice_index_or}
use Rattle.plane.specs.Order.{IsBefore}
use Rattle.plane.specs.Point.{Point}
use Rattle.rings.specs.Ring.{vertex}

-- one number for each vertex, lower for vertices that are lexicographically before
pub record AreRanks (corners : List Point) (ranks : List ℕ) : Type 0 where
  pub all : length ranks ≡ length corners
  pub order : (i j : ℕ) → i < length corners → j < length corners
      → (slice_index ranks i < slice_index ranks j) ↔ IsBefore (vertex corners i) (vertex corners j)

-- each vertex of the list is lexicographically before the next
abbrev pub Rises : List Point → List ℕ → Type 0
Rises corners path =
    (k : ℕ) → k + 1 < length path → IsBefore (vertex corners (slice_index_or path k 0)) (vertex corners (slice_index_or path (k + 1) 0))

-- read from its least vertex on, the piece rises to its greatest vertex and then falls
pub record IsMonotone (corners : List Point) (piece : List ℕ) : Type 0 where
  pub before : List ℕ
  pub from_least : List ℕ
  pub parts : piece ≡ before ++ from_least
  pub least : ℕ
  pub lower : List ℕ
  pub greatest : ℕ
  pub upper : List ℕ
  pub read : from_least ++ before ≡ least ∷ (lower ++ greatest ∷ upper)
  pub lower_rises : Rises corners (least ∷ (lower ++ greatest ∷ []))
  pub upper_rises : Rises corners (least ∷ (reverse upper ++ greatest ∷ []))
