-- The steps that are allowed for pieces: those of all cuts into which a piece can be cut.
use Rattle.std.proofs.Common.{◌≡◌, subst, ℕ, zero, suc, ◌+◌, ◌-◌, ◌*◌, ◌≤◌, List, [], ◌∷◌, length, arith}

-- those that are allowed for a piece with so many vertices more than three
pub allowed_for : ℕ → ℕ
allowed_for more = 130 * (more * more) + 136 * more + 3

-- and for the pieces that are still to be cut
abbrev pub allowed : List (List ℕ) → ℕ
allowed [] = 0
allowed (piece ∷ pieces) = allowed_for (length piece - 3) + allowed pieces

-- a cut of a triangle is allowed,
pub triangle_allowed : allowed_for 0 ≡ 3
unfolding allowed_for
triangle_allowed = omega arith

-- one that takes a vertex away,
pub ear_allowed : (more : ℕ) → allowed_for more + (260 * more + 263) ≤ allowed_for (more + 1)
unfolding allowed_for
ear_allowed more = omega arith

-- and one in two parts
pub parts_allowed : (m n : ℕ) → allowed_for m + allowed_for n + (260 * (m + n) + 263) ≤ allowed_for (m + n + 1)
unfolding allowed_for
parts_allowed m n = omega arith

-- so is any cut by itself
one_cut_allowed : (more : ℕ) → 260 * more + 3 ≤ allowed_for more
unfolding allowed_for
one_cut_allowed zero = omega arith
one_cut_allowed (suc more) = omega arith

pub size_allowed : (n : ℕ) → 260 * n ≤ allowed_for (n - 3) + 777
size_allowed n = omega (arith, one_cut_allowed (n - 3))

-- three vertices more
whole_allowed : (m : ℕ) → allowed_for m ≤ 130 * ((m + 3) * (m + 3))
unfolding allowed_for
whole_allowed m = omega arith

-- what is allowed for the whole ring is at most so many steps
pub allowed_in_all : (n : ℕ) → 3 ≤ n → allowed_for (n - 3) ≤ 130 * (n * n)
allowed_in_all n some =
    let back : n - 3 + 3 ≡ n = omega (arith, some) in
    subst (λ m. allowed_for (n - 3) ≤ 130 * (m * m)) back (whole_allowed (n - 3))
