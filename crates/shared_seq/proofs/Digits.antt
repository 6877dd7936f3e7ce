-- A number is below a power of 2 exactly if it has at most so many binary digits.
use Rattle.std.proofs.Common.{ℕ, ◌+◌, ◌^◌, ◌<◌, ◌≤◌, length, subst, arith}
use Rattle.std.proofs.lemmas.Int.Digits.{all_below_base_digits_of, length-digits_of-le, number_digits_of, number_lt}
use Rattle.std.specs.Int.Digits.{digits_of}
use Rattle.shared_seq.specs.Digits.{binary_digits}

pub binary_digits_enough : (n : ℕ) → n < 2 ^ binary_digits n
unfolding binary_digits
binary_digits_enough n =
    subst (λ k. k < 2 ^ length (digits_of 2 n)) (number_digits_of 2 n (omega arith))
    (number_lt 2 (digits_of 2 n) (all_below_base_digits_of 2 n (omega arith)))

pub binary_digits-le : (k n : ℕ) → n < 2 ^ k → binary_digits n ≤ k
unfolding binary_digits
binary_digits-le k n below = length-digits_of-le 2 k n (omega arith) below

-- a greater number has no fewer
pub binary_digits_mono : (m n : ℕ) → m ≤ n → binary_digits m ≤ binary_digits n
binary_digits_mono m n le = binary_digits-le (binary_digits n) m (omega (arith, binary_digits_enough n))

-- and the sum of two numbers no fewer than each
pub binary_digits_sum : (m n : ℕ) → (binary_digits m ≤ binary_digits (m + n)) × (binary_digits n ≤ binary_digits (m + n))
binary_digits_sum m n = (binary_digits_mono m (m + n) (omega arith), binary_digits_mono n (m + n) (omega arith))
