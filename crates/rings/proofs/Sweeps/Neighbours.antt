-- Lists in which each item is related to the next, after one is put in the place of another: the pairs at the place are enough.
use Rattle.std.proofs.Common.{◌≡◌, inl, inr, ℕ, ◌+◌, ◌-◌, ◌<◌, List, length, get_or, set, arith}
use Rattle.std.proofs.lemmas.Bool.{cases_eq}
use Rattle.std.proofs.lemmas.List.{get_or-set_other, length-set, get_or_default}
use Rattle.std.proofs.lemmas.List.Elements.{All-set}
use Rattle.std.specs.List.{AllAdjacentBelow}
use Rattle.std.specs.Prelude.{slice_index}
use Rattle.plane.specs.Point.{Point}
use Rattle.rings.specs.Status.{FitsAt, IsEdgeBelow, IsStacked}

module _ {X : Type 0} (R : X → X → Type 0) where
  -- the item at place i is related to the one before it
  abbrev pub IsFitting : List X → ℕ → Type 0
  IsFitting ys i = (k d : _) → k + 1 ≡ i → k + 1 < length ys → R (get_or ys k d) (get_or ys (k + 1) d)

  module _ (xs : List X) (i : ℕ) (ordered : AllAdjacentBelow R xs (length xs)) where
    -- the pair at place j, in another list where it stands at place k
    moved : (ys : List X) (j k : ℕ) (d : X) → j + 1 < length xs → get_or ys k d ≡ get_or xs j d → get_or ys (k + 1) d ≡ get_or xs (j + 1) d
        → R (get_or ys k d) (get_or ys (k + 1) d)
    moved ys j k d within e f = rw (e, f) (ordered j d within)

    -- after one takes the place of another
    pub adjacent_set : (y : X) → IsFitting (set xs i y) i → IsFitting (set xs i y) (i + 1) → AllAdjacentBelow R (set xs i y) (length (set xs i y))
    adjacent_set y fit fit_next k d within = let size = length-set xs i y in elim (cases_eq k i) [
      | inl here ↦ fit_next k d (omega (arith, here)) within
      | inr not ↦ elim (cases_eq (k + 1) i) [
        | inl next ↦ fit k d next within
        | inr far ↦ moved (set xs i y) k k d (omega (arith, size, within)) (get_or-set_other xs i k y d not) (get_or-set_other xs i (k + 1) y d far)
      ]
    ]

-- ---- a list of edges, each below the next, after one takes the place of another

-- an item that is related to the one before it is so with each default
fitting : (R : ℕ → ℕ → Type 0) (ys : List ℕ) (i : ℕ) → (0 < i → i < length ys → R (slice_index ys (i - 1)) (slice_index ys i)) → IsFitting R ys i
fitting R ys i fits k d here within =
    let before : i - 1 ≡ k = omega (arith, here) in
    rw (get_or_default ys k 0 d (omega (arith, within)), get_or_default ys (k + 1) 0 d within) at
    (rw (before, ← here) at (fits (omega (arith, here)) (omega (arith, here, within))))

module _ (ring : List Point) (ranks : List ℕ) where
  abbrev IsEdge : ℕ → Type 0
  IsEdge e = e < length ranks

  module _ (xs : List ℕ) (i : ℕ) (stacked : IsStacked ring ranks xs) where
    pub replaced : (e : ℕ) → IsEdge e → FitsAt ring ranks (set xs i e) i → FitsAt ring ranks (set xs i e) (i + 1) → IsStacked ring ranks (set xs i e)
    replaced e edge fits fits_next = record {
      edges = All-set IsEdge xs i e edge stacked.edges;
      ordered =
          adjacent_set (IsEdgeBelow ring ranks) xs i stacked.ordered e (fitting (IsEdgeBelow ring ranks) (set xs i e) i fits) (fitting (IsEdgeBelow ring ranks) (set xs i e) (i + 1) fits_next);
    }
