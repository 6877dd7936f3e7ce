-- How many steps it takes to make a funnel: pushes on a list of one or two numbers. Digits of few corners.
use Rattle.std.proofs.Common.{◌≡◌, refl, List, length, ℕ, ◌+◌, ◌*◌, ◌≤◌, arith}
use Rattle.std.proofs.lemmas.Nat.{mul-le}
use Rattle.shared_seq.proofs.Digits.{binary_digits-le, binary_digits_mono}
use Rattle.shared_seq.specs.Digits.{binary_digits}

-- a list of two numbers or fewer has at most two digits with one number more
pub few_digits : (list : List ℕ) → length list ≤ 2 → binary_digits (length list + 1) ≤ 2
few_digits list few = binary_digits-le 2 (length list + 1) (omega (arith, few))

-- some corners have a digit or more, and four or more have three
one_has : binary_digits 1 ≡ 1
unfolding binary_digits
one_has = refl

four_has : binary_digits 4 ≡ 3
unfolding binary_digits
four_has = refl

pub some_digits : (n : ℕ) → 1 ≤ n → 1 ≤ binary_digits n
some_digits n some = omega (arith, one_has, binary_digits_mono 1 n some)

pub three_digits : (n : ℕ) → 4 ≤ n → 3 ≤ binary_digits n
three_digits n more = omega (arith, four_has, binary_digits_mono 4 n more)

-- The home of a tree, or of a row of a table, takes three
pub home_steps : (n : ℕ) → 1 ≤ n → 3 ≤ 200 * (binary_digits n * binary_digits n)
home_steps n some =
    let b = binary_digits n in
    let digits = some_digits n some in
    omega (arith, mul-le 1 1 b b digits digits)
