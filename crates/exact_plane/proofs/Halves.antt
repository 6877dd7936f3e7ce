-- What a search by halves takes.
use Rattle.std.proofs.Common.{ℕ, ◌+◌, ◌*◌, ◌^◌, ◌<◌, ◌≤◌, ◌≡◌, zero, suc, arith}
use Rattle.std.proofs.lemmas.Nat.{pow-add}

-- some are left, fewer than 2 to a power, which is that of the steps to come
abbrev pub IsPaid : ℕ → ℕ → ℕ → Type 0
IsPaid left steps most = (e : ℕ) × (left < 2 ^ e) × (steps + 2 * e ≤ most)

-- at most half of them are left after two steps more
pub half_paid : (left half before after most : ℕ) → 0 < left → 2 * half ≤ left → after ≤ before + 2 → IsPaid left before most → IsPaid half after most
half_paid left half before after most some less took (zero, below, paid) = absurd (omega (arith, some, below))
half_paid left half before after most some less took (suc e, below, paid) =
    let twice : 2 ^ (e + 1) ≡ 2 ^ e * 2 = pow-add 2 e 1 in
    (e, omega (arith, below, less, twice), omega (arith, took, paid))
