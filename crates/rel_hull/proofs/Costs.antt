-- How many steps a search by halves takes, and the rounds of loops.
use Rattle.std.proofs.Common.{◌≡◌, sym, subst, ℕ, zero, suc, ◌+◌, ◌*◌, ◌^◌, ◌<◌, ◌≤◌, arith}
use Rattle.std.proofs.lemmas.Nat.{mul-le}

-- what is left to be searched takes as many halvings as are left of a bound at most
pub record AreLeft (size bound steps : ℕ) : Type 0 where
  pub halvings : ℕ
  pub below : size < 2 ^ halvings
  pub paid : steps + halvings ≤ bound

halved : (size half bound steps halvings : ℕ) → 0 < size → half + half ≤ size → size < 2 ^ halvings → steps + halvings ≤ bound
    → AreLeft half bound (steps + 1)
halved size half bound steps zero some less below paid = absurd (omega (arith, below))
halved size half bound steps (suc k) some less below paid = record {
  halvings = k;
  below = omega (arith, below);
  paid = omega (arith, paid);
}

-- a step that leaves half of it at most leaves enough
pub one_halving : (size half bound steps : ℕ) → 0 < size → half + half ≤ size → AreLeft size bound steps → AreLeft half bound (steps + 1)
one_halving size half bound steps some less left = halved size half bound steps left.halvings some less left.below left.paid

-- one round more
pub one_more : (start before after k cost : ℕ) → before ≤ start + k * cost → after ≤ before + cost → after ≤ start + (k + 1) * cost
one_more start before after k cost so_far more = omega (arith, so_far, more)

-- rounds within a number of them
pub within_rounds : (start steps k n cost : ℕ) → steps ≤ start + k * cost → k ≤ n → steps ≤ start + n * cost
within_rounds start steps k n cost so_far few = omega (arith, so_far, mul-le k cost n cost few (omega arith))

-- the sides of e outer points, of m points
pub sides_paid : (start found after m e w : ℕ) → found ≤ start + 3 * m * m * m → after ≤ found + 2 * e * e * w → e ≤ m
    → after ≤ start + 3 * m * m * m + 2 * m * m * w
sides_paid start found after m e w so_far more few =
    let square : e * e ≤ m * m = mul-le e e m m few few in
    let all : e * e * w ≤ m * m * w = mul-le (e * e) w (m * m) w square (omega arith) in
    omega (arith, so_far, more, all)

-- and the ends that a round is found by, one more,
pub end_paid : (base before after k n m e w : ℕ) → before ≤ base + k * (m * w) → after ≤ before + e * w → e ≤ m → n ≡ k + 1
    → after ≤ base + n * (m * w)
end_paid base before after k n m e w so_far more few next =
    let all : e * w ≤ m * w = mul-le e w m w few (omega arith) in
    subst (λ (j : ℕ). after ≤ base + j * (m * w)) (sym next) (omega (arith, so_far, more, all))

-- and all of them
pub round_paid : (start steps k m d : ℕ) → steps ≤ start + 3 * m * m * m + 2 * m * m * (d + 8) + k * (m * (d + 8)) → k ≤ m
    → steps ≤ start + 3 * m * m * (m + d + 8)
round_paid start steps k m d so_far few =
    let all : k * (m * (d + 8)) ≤ m * (m * (d + 8)) = mul-le k (m * (d + 8)) m (m * (d + 8)) few (omega arith) in
    omega (arith, so_far, all)
