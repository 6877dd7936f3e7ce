-- How many steps a tree of paths takes for each triangle, and to a goal, by the number of binary digits of that of the corners.
use Rattle.std.proofs.Common.{ℕ, ◌+◌, ◌*◌, ◌<◌, ◌≤◌, arith}
use Rattle.std.proofs.lemmas.Nat.{mul-le}
use Rattle.path_tree.proofs.StepCounts.{some_digits}
use Rattle.shared_seq.proofs.Digits.{binary_digits_mono}
use Rattle.shared_seq.specs.Digits.{binary_digits}

-- what a search in a funnel takes at some digits, by more of them,
pub search_steps : (b x : ℕ) → x ≤ b → x * (4 * x + 3) ≤ b * (4 * b + 3)
search_steps b x le = mul-le x (4 * x + 3) b (4 * b + 3) le (omega (arith, le))

-- and a new funnel, a search and a number take less than is promised
pub triangle_steps : (b : ℕ) → 3 ≤ b → 160 * (b + 1) + b * (4 * b + 3) + (2 * b + 1) + 1 ≤ 200 * (b * b)
triangle_steps b three = omega (arith, three, mul-le 3 b b b three (omega arith))

-- There are fewer triangles than corners
pub tree_steps : (p n b : ℕ) → p ≤ n → p * (200 * (b * b)) ≤ 200 * n * (b * b)
tree_steps p n b le = omega (arith, mul-le p (200 * (b * b)) n (200 * (b * b)) le (omega arith))

-- To a goal a search, a number and two tests take less at some digits, by more of them,
goal_steps : (c b : ℕ) → c ≤ b → 1 ≤ b → c * (4 * c + 3) + (2 * c + 1) + 2 ≤ 24 * (b * b)
goal_steps c b le some = omega (arith, le, some, mul-le c c b b le le, mul-le 1 b b b some (omega arith))

-- and so in a list of fewer numbers than there are corners
pub reach_paid : (m n : ℕ) → 0 < n → m ≤ n
    → binary_digits m * (4 * binary_digits m + 3) + (2 * binary_digits m + 1) + 2 ≤ 24 * (binary_digits n * binary_digits n)
reach_paid m n some le = goal_steps (binary_digits m) (binary_digits n) (binary_digits_mono m n le) (some_digits n some)
