-- Points in lexicographic order, by their ranks, and where a point of an edge comes among them.
use Rattle.std.proofs.Common.{◌≡◌, inl, inr, ℕ, zero, suc, ◌+◌, ◌-◌, ◌<◌, ◌≤◌, arith}
use Rattle.std.proofs.lemmas.Int.{ints}
use Rattle.plane.proofs.Order.{NotAfter, not_after_antisym, not_after_facts, not_after_of_precedes, not_after_of_same, not_after_or_precedes}
use Rattle.plane.proofs.Order.{not_after_trans}
use Rattle.plane.proofs.Points.{same_refl, same_sym, same_trans, same_whole, whole_is_point}
use Rattle.plane.proofs.Segments.{on_not_after, on_not_before}
use Rattle.plane.specs.Prelude.{IsBefore, IsPoint, IsSame, On, Point, Precedes, Triple, whole}

-- a whole point before another precedes it
pub precedes_whole : (p q : Point) → IsBefore p q → Precedes (whole p) (whole q)
precedes_whole p q (inl h) = inl (omega (arith, ints))
precedes_whole p q (inr h) = let e = h.0 in let k = h.1 in inr (omega (arith, ints), omega (arith, ints))

-- ---- a point of a segment that runs forward

module _ (a b : Point) (x : Triple) (at_x : IsPoint x) (ab : Precedes (whole a) (whole b)) (on : On x (whole a) (whole b)) where
  at : (v : Point) → IsPoint (whole v)
  at v = whole_is_point v

  -- it is not before the first end
  pub not_before_first : NotAfter (whole a) x
  not_before_first = elim (on_not_before x (whole a) (whole b) at_x (at a) (at b) on) [
    | inl h ↦ h
    | inr h ↦ not_after_trans (whole a) (whole b) x (at a) (at b) at_x (not_after_of_precedes (whole a) (whole b) ab) h
  ]

  -- nor after the last
  pub not_after_last : NotAfter x (whole b)
  not_after_last = elim (on_not_after x (whole a) (whole b) at_x (at a) (at b) on) [
    | inr h ↦ h
    | inl h ↦ not_after_trans x (whole a) (whole b) at_x (at a) (at b) h (not_after_of_precedes (whole a) (whole b) ab)
  ]

-- ---- points that ascend

module _ (z : ℕ → Point) (n : ℕ) (rising : (k : ℕ) → k + 1 < n → IsBefore (z k) (z (k + 1))) where
  at_z : (k : ℕ) → IsPoint (whole (z k))
  at_z k = whole_is_point (z k)

  step : (k : ℕ) → k + 1 < n → Precedes (whole (z k)) (whole (z (k + 1)))
  step k h = precedes_whole (z k) (z (k + 1)) (rising k h)

  -- none is after one of a greater rank
  not_after_later : (i m : ℕ) → i + m < n → NotAfter (whole (z i)) (whole (z (i + m)))
  not_after_later i zero within =
      let same : i + 0 ≡ i = omega arith in
      rw same (not_after_of_same (whole (z i)) (whole (z i)) (same_refl (whole (z i))))
  not_after_later i (suc m) within =
      let j : ℕ = i + m in
      let next : i + suc m ≡ j + 1 = omega arith in
      rw next
      (not_after_trans (whole (z i)) (whole (z j)) (whole (z (j + 1))) (at_z i) (at_z j) (at_z (j + 1))
      (not_after_later i m (omega arith)) (not_after_of_precedes (whole (z j)) (whole (z (j + 1))) (step j (omega arith))))

  pub ascends : (i k : ℕ) → i ≤ k → k < n → NotAfter (whole (z i)) (whole (z k))
  ascends i k h within =
      let m : ℕ = k - i in
      let is : i + m ≡ k = omega arith in
      rw is at (not_after_later i m (omega arith))

  -- and each is before them
  pub precedes_later : (i k : ℕ) → i < k → k < n → Precedes (whole (z i)) (whole (z k))
  precedes_later i k h within = elim (not_after_or_precedes (whole (z i)) (whole (z k))) [
    | inl p ↦ p
    | inr back ↦
        absurd (not_after_facts (whole (z (i + 1))) (whole (z i))
        (not_after_trans (whole (z (i + 1))) (whole (z k)) (whole (z i)) (at_z (i + 1)) (at_z k) (at_z i) (ascends (i + 1) k (omega arith) within) back)
        (step i (omega arith)))
  ]

  module _ (x : Triple) (at_x : IsPoint x) where
    -- x comes between point k and the next
    pub record IsInSlab (i j : ℕ) : Type 0 where
      pub k : ℕ
      pub from : i ≤ k
      pub to : k < j
      pub after : NotAfter (whole (z k)) x
      pub before : NotAfter x (whole (z (k + 1)))

    -- what comes between two of them comes between two consecutive ones
    find_slab : (m i : ℕ) → NotAfter (whole (z i)) x → NotAfter x (whole (z (i + 1 + m))) → IsInSlab i (i + 1 + m)
    find_slab zero i lower upper =
        let next : i + 1 + 0 ≡ i + 1 = omega arith in
        record { k = i; from = omega arith; to = omega arith; after = lower; before = rw next at upper }
    find_slab (suc m) i lower upper = elim (not_after_or_precedes (whole (z (i + 1))) x) [
      | inr h ↦ record { k = i; from = omega arith; to = omega arith; after = lower; before = h }
      | inl h ↦
          let next : i + 1 + suc m ≡ (i + 1) + 1 + m = omega arith in
          let s = find_slab m (i + 1) (not_after_of_precedes (whole (z (i + 1))) x h) (rw next at upper) in
          let from = s.from in
          let to = s.to in
          record { k = s.k; from = omega arith; to = omega arith; after = s.after; before = s.before }
    ]

    pub slab_between : (i j : ℕ) → i < j → NotAfter (whole (z i)) x → NotAfter x (whole (z j)) → IsInSlab i j
    slab_between i j less lower upper =
        let m : ℕ = j - (i + 1) in
        let is : j ≡ i + 1 + m = omega arith in
        rw is (find_slab m i lower (rw is at upper))

    -- where the second is no later than the first, x is both
    pub at_one_place : (i j : ℕ) → j ≤ i → i < n → NotAfter (whole (z i)) x → NotAfter x (whole (z j)) → IsSame x (whole (z i)) × (z j ≡ z i)
    at_one_place i j h within after before =
        let back = ascends j i h within in
        let same = not_after_antisym x (whole (z i)) (not_after_trans x (whole (z j)) (whole (z i)) at_x (at_z j) (at_z i) before back) after in
        let other = not_after_antisym x (whole (z j)) before (not_after_trans (whole (z j)) (whole (z i)) x (at_z j) (at_z i) at_x back after) in
        (same, same_whole (z j) (z i) (same_trans at_x (same_sym other) same))
