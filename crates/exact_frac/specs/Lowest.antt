-- Fractions in lowest terms: the textbooks' definitions.
use Rattle.std.specs.Int.{IsGcd}
use Rattle.std.specs.Prelude.{ℕ, zero, suc, ◌%◌, ◌==◌, ◌&&◌, if◌then◌else◌, ℤ, pos, ◌<ℤ◌, int_div, unsigned_abs}

-- the denominator is positive, and 1 is the greatest number that divides both parts
pub record IsLowest (num den : ℤ) : Type 0 where
  pub positive : pos 0 <ℤ den
  pub lowest : IsGcd (unsigned_abs num) (unsigned_abs den) 1

-- the greatest number from 1 up to a bound that divides both numbers
unfoldable pub greatest_divisor : ℕ → ℕ → ℕ → ℕ
greatest_divisor m n zero = 1
greatest_divisor m n (suc most) = if ((m % suc most) == 0) && ((n % suc most) == 0) then suc most else greatest_divisor m n most

-- the greatest common divisor of the parts of a fraction
abbrev pub common_divisor : ℤ → ℤ → ℕ
common_divisor num den = greatest_divisor (unsigned_abs num) (unsigned_abs den) (unsigned_abs den)

-- the parts of num / den in lowest terms
unfoldable pub lowest_num : ℤ → ℤ → ℤ
lowest_num num den = int_div num (pos (common_divisor num den))

unfoldable pub lowest_den : ℤ → ℤ → ℤ
lowest_den num den = int_div den (pos (common_divisor num den))
