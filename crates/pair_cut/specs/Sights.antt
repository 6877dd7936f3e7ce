-- Which pairs see each other by a table alone. No public clause cites this module. This project's own.
use Rattle.std.specs.List.{Contains}
use Rattle.std.specs.Prelude.{◌≡◌, ℕ, ◌<◌, List, length}
use Rattle.plane.specs.Pairs.{IsPairBefore, pair_at}
use Rattle.pair_cut.specs.Pairs.{pair_before}

-- of two vertices the first comes before the second
pub record IsSightTold (before : List (List ℕ)) (pair : ℕ × ℕ) : Type 0 where
  pub order : pair.0 < pair.1
  pub in_table : pair.1 < length before
  pub first : pair_before before pair.0 pair.1 ≡ pair.0

-- the pairs are exactly such ones that come before a pair, in order
pub record AreToldBefore (before : List (List ℕ)) (bound : ℕ × ℕ) (pairs : List (ℕ × ℕ)) : Type 0 where
  pub told : (pair : ℕ × ℕ) → Contains pairs pair → IsSightTold before pair
  pub earlier : (pair : ℕ × ℕ) → Contains pairs pair → IsPairBefore pair bound
  pub all : (pair : ℕ × ℕ) → IsSightTold before pair → IsPairBefore pair bound → Contains pairs pair
  pub sorted : (k l : ℕ) → k < l → l < length pairs → IsPairBefore (pair_at pairs k) (pair_at pairs l)
