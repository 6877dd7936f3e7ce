-- How high a balanced tree is beside the number of its values.
use Rattle.std.proofs.Common.{◌≡◌, ℕ, ◌+◌, ◌*◌, ◌^◌, ◌<◌, ◌≤◌, max, ◌∷◌, ◌++◌, add_comm, length, inl, inr, arith, length-append, ◌∙◌}
use Rattle.std.proofs.Math.Pow.{pow_mono}
use Rattle.std.proofs.lemmas.Bool.{cases_lt}
use Rattle.std.proofs.lemmas.Nat.{mul-le, pow-add}
use Rattle.shared_seq.specs.Digits.{binary_digits}
use Rattle.shared_seq.specs.Tree.{DifferByAtMost, IsBalancedTree, Tree, forked}
use Rattle.shared_seq.proofs.Digits.{binary_digits_enough}

-- a power that is at most the square of one more than a number below another power
power_at_most : (h n k : ℕ) → n < 2 ^ k → 2 ^ h ≤ (n + 1) * (n + 1) → h ≤ k + k
power_at_most h n k below full = elim (cases_lt (k + k) h) [
  | inl more ↦ absurd (omega (arith, pow_mono more, pow-add 2 k k, full, mul-le (n + 1) (n + 1) (2 ^ k) (2 ^ k) (omega (arith, below)) (omega (arith, below))))
  | inr fewer ↦ fewer
]

-- at most twice the number of binary digits
pub height_digits : (tree : Tree) → IsBalancedTree tree → tree.height ≤ 2 * binary_digits (length tree.items)
height_digits tree is =
    let b = binary_digits (length tree.items) in
    omega (arith, power_at_most tree.height (length tree.items) b (binary_digits_enough _) is.full)

-- a tree with at least as many values beside it
beside : (h k m n : ℕ) → k ≤ h + 2 → m ≤ n → 2 ^ h ≤ m * m → 2 ^ k ≤ (m + n) * (m + n)
beside h k m n near fewer full =
    let power : 2 ^ k ≤ 2 ^ (h + 2) = pow_mono near in
    let four : 2 ^ (h + 2) ≡ 2 ^ h * 4 = pow-add 2 h 2 in
    let square = mul-le (m + m) (m + m) (m + n) (m + n) (omega arith) (omega arith) in
    let twice : (m + m) * (m + m) ≡ m * m * 4 = omega arith in
    omega arith

full_fork : (h k m n : ℕ) → DifferByAtMost 1 h k → 2 ^ h ≤ m * m → 2 ^ k ≤ n * n → 2 ^ (max h k + 1) ≤ (m + n) * (m + n)
full_fork h k m n near left right = elim (cases_lt n m) [
  | inl more ↦ rw (add_comm m n) (beside k (max h k + 1) n m (omega (arith, near.0, near.1)) (omega arith) right)
  | inr fewer ↦ beside h (max h k + 1) m n (omega (arith, near.0, near.1)) fewer left
]

pub fork_is_tree : (l r : Tree) (v : ℕ) → IsBalancedTree l → IsBalancedTree r → DifferByAtMost 1 l.height r.height
    → length l.items + length r.items + 1 < 2 ^ 31 → IsBalancedTree (forked l v r)
fork_is_tree l r v left right near few =
    let n = length l.items + 1 + length r.items in
    let both : length (l.items ++ v ∷ r.items) ≡ n = length-append l.items (v ∷ r.items) ∙ omega arith in
    let short : n < 2 ^ 31 = omega (arith, few) in
    let sum : length l.items + 1 + (length r.items + 1) ≡ n + 1 = omega arith in
    let full : 2 ^ (max l.height r.height + 1) ≤ (n + 1) * (n + 1) = rw (← sum) (full_fork l.height r.height (length l.items + 1) (length r.items + 1) near left.full right.full) in
    record {
      short = rw both short;
      full = rw both full;
      low = omega (arith, power_at_most (max l.height r.height + 1) n 31 short full);
    }
