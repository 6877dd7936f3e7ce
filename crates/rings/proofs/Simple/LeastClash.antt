-- There is one least clash at most, and none in a simple ring.
use Rattle.std.proofs.Common.{◌≡◌, ℕ, ◌<◌, ◌⊎◌, inl, inr, List, arith}
use Rattle.std.proofs.lemmas.Bool.{cases_order}
use Rattle.plane.specs.Point.{Point}
use Rattle.rings.specs.Simple.{IsLeastClash, IsLesserPair, IsSimple}

-- two pairs are the same, or one is less
pub data PairOrder (i j k l : ℕ) : Type 0 where
  same : i ≡ k → j ≡ l → PairOrder i j k l
  first_less : IsLesserPair i j k l → PairOrder i j k l
  second_less : IsLesserPair k l i j → PairOrder i j k l

compare_pairs : (i j k l : ℕ) → PairOrder i j k l
compare_pairs i j k l = by_first (cases_order i k) (cases_order j l)
  where
    by_first : (i ≡ k) ⊎ ((i < k) ⊎ (k < i)) → (j ≡ l) ⊎ ((j < l) ⊎ (l < j)) → PairOrder i j k l
    by_first (inr (inl less)) second = first_less (inl less)
    by_first (inr (inr more)) second = second_less (inl more)
    by_first (inl equal) (inl also) = same equal also
    by_first (inl equal) (inr (inl less)) = first_less (inr (equal, less))
    by_first (inl equal) (inr (inr more)) = second_less (inr (omega arith, more))

-- two least clashes are one
pub least_clash_is_one : (ring : List Point) (i j k l : ℕ) → IsLeastClash ring i j → IsLeastClash ring k l → (i ≡ k) × (j ≡ l)
least_clash_is_one ring i j k l first second = elim (compare_pairs i j k l) [
  | same e f ↦ (e, f)
  | first_less less ↦ absurd (second.least i j first.in_order first.in_ring less first.clash)
  | second_less less ↦ absurd (first.least k l second.in_order second.in_ring less second.clash)
]

-- a simple ring has no least clash
pub no_least_clash : (ring : List Point) (i j : ℕ) → IsSimple ring → ¬ (IsLeastClash ring i j)
no_least_clash ring i j simple least = simple i j least.in_order least.in_ring least.clash
