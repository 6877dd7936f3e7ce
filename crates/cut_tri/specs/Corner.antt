-- The farthest of the vertices in the triangle at the first vertex of a piece. No public clause cites this module.
use Rattle.std.specs.Prelude.{◌≡◌, ◌⊎◌, ℕ, ◌<◌, ◌<ℤ◌, Option, Some, List, slice_index_or}
use Rattle.plane.specs.Point.{Point}
use Rattle.cut_tri.specs.Cut.{IsPlaceInCorner, height_at}
use Rattle.cut_tri.specs.declared.farthest.Candidate.{Candidate}

-- the vertex at place k, with its height over the line through the last and the second vertex
abbrev pub candidate_at : List Point → List ℕ → ℕ → Candidate
candidate_at corners piece k = record {
  height = height_at corners piece k;
  number = slice_index_or piece k 0;
  place = k;
}

-- the first is higher, or as high with a lesser number
abbrev pub IsFarther : Candidate → Candidate → Type 0
IsFarther c d = (d.height <ℤ c.height) ⊎ ((c.height ≡ d.height) × (c.number < d.number))

-- the chosen one is one of the two, and neither is farther
pub record IsFartherOf (best : Option Candidate) (candidate chosen : Candidate) : Type 0 where
  pub one : (chosen ≡ candidate) ⊎ (best ≡ Some chosen)
  pub candidate_not_farther : ¬ (IsFarther candidate chosen)
  pub best_not_farther : (b : Candidate) → best ≡ Some b → ¬ (IsFarther b chosen)

-- of the vertices in the triangle, at the first n places, none is farther than the one at this place
pub record IsFarthestBelow (corners : List Point) (piece : List ℕ) (n place : ℕ) : Type 0 where
  pub in_corner : IsPlaceInCorner corners piece place
  pub farthest : (j : ℕ) → j < n → IsPlaceInCorner corners piece j → ¬ (IsFarther (candidate_at corners piece j) (candidate_at corners piece place))
