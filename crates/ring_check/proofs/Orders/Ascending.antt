-- Points that ascend in lexicographic order.
use Rattle.std.proofs.Common.{◌≡◌, ℕ, zero, suc, ◌+◌, ◌-◌, ◌<◌, arith}
use Rattle.plane.proofs.Order.{before_trans}
use Rattle.plane.specs.Order.{IsBefore}
use Rattle.plane.specs.Point.{Point}

module _ (z : ℕ → Point) (n : ℕ) (rising : (k : ℕ) → k + 1 < n → IsBefore (z k) (z (k + 1))) where
  -- each is before all later ones
  before_later : (i m : ℕ) → i + m + 1 < n → IsBefore (z i) (z (i + m + 1))
  before_later i zero within = let e : i + 0 + 1 ≡ i + 1 = omega arith in rw e (rising i (omega arith))
  before_later i (suc m) within =
      let j : ℕ = i + m + 1 in
      let next : i + suc m + 1 ≡ j + 1 = omega arith in
      rw next (before_trans (z i) (z j) (z (j + 1)) (before_later i m (omega arith)) (rising j (omega arith)))

  pub ascending : (i k : ℕ) → i < k → k < n → IsBefore (z i) (z k)
  ascending i k h within =
      let m : ℕ = k - i - 1 in
      let is : i + m + 1 ≡ k = omega arith in
      rw is at (before_later i m (omega arith))
