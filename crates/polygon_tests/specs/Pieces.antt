-- Monotone pieces as rows of a table, for tests. No public clause cites this module.
use Rattle.std.specs.List.{All, range_with_len}
use Rattle.std.specs.Prelude.{ℕ, ◌<◌, ◌≤◌, ℤ, List, length, map}
use Rattle.mono_fill.specs.Monotone.{AreRanks, IsMonotone}
use Rattle.polygon_tests.specs.Rows.{point_with}

-- the points are in lexicographic order, so that the rank of each is its number, and the piece is a monotone one of some of them
pub record IsPieceRow (points : List (ℤ × ℤ)) (piece : List ℕ) : Type 0 where
  pub ranks : AreRanks (map point_with points) (range_with_len 0 (length (map point_with points)))
  pub some : 3 ≤ length piece
  pub numbers : All (λ i. i < length (map point_with points)) piece
  pub monotone : IsMonotone (map point_with points) piece
