-- A buffer with room for its items keeps all of them.
use Rattle.std.proofs.Common.{◌≡◌, ap, ℕ, ◌-◌, ◌≤◌, List, length, drop, arith}

-- what is kept of items for which there is room is all of them
pub kept_all : {X : Type 0} (n : ℕ) (xs : List X) → length xs ≤ n → drop (length xs - n) xs ≡ xs
kept_all n xs few = let none : length xs - n ≡ 0 = omega arith in ap (λ k. drop k xs) none
