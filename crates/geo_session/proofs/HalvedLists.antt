-- A search by halves takes a round for each binary digit; the lengths of its parts.
use Rattle.std.proofs.Common.{◌≡◌, ℕ, zero, suc, ◌+◌, ◌-◌, ◌*◌, ◌^◌, ◌<◌, ◌≤◌, List, length, length-drop, length-take-le, take, drop, arith}
use Rattle.std.proofs.Math.Nat.{pow-suc}
use Rattle.std.proofs.lemmas.Nat.{mul-le}
use Rattle.shared_seq.proofs.Digits.{binary_digits-le, binary_digits_enough}
use Rattle.shared_seq.specs.Digits.{binary_digits}

-- half of a number has a digit less
fewer_digits : (y half d : ℕ) → 0 < y → 2 * half ≤ y → y < 2 ^ d → binary_digits half + 1 ≤ d
fewer_digits y half zero some less below = absurd (omega (arith, some, below))
fewer_digits y half (suc d) some less below = omega (arith, binary_digits-le d half (omega (arith, less, below, pow-suc 2 d)))

-- so a round is paid for
pub round_paid : (y half each start before after : ℕ) → 0 < y → 2 * half ≤ y → before + binary_digits y * each ≤ start → after ≤ before + each
    → after + binary_digits half * each ≤ start
round_paid y half each start before after some less paid more =
    let fewer = fewer_digits y half (binary_digits y) some less (binary_digits_enough y) in
    let rounds : (binary_digits half + 1) * each ≤ binary_digits y * each = mul-le (binary_digits half + 1) each (binary_digits y) each fewer (omega arith) in
    omega (arith, paid, more, rounds)

-- the elements from one number to before another
pub part_length : {A : Type 0} (xs : List A) (from to : ℕ) → from ≤ to → to ≤ length xs → length (take (to - from) (drop from xs)) ≡ to - from
part_length xs from to rising within = length-take-le (to - from) (drop from xs) (omega (arith, rising, within, length-drop from xs))
