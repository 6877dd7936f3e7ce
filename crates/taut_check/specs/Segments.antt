-- How many steps a segment takes. No public clause cites this module.
use Rattle.std.specs.Prelude.{ℕ, ◌+◌, ◌*◌, ◌<◌, ◌≤◌, ◌^◌}

-- so many are enough to tell whether a segment lies in a ring of n vertices
pub record IsEnough (n most : ℕ) : Type 0 where
  pub digits : ℕ
  pub below : n < 2 ^ digits
  pub enough : 2560 * (n * n) + 3000 * (n * (digits + 2)) ≤ most
