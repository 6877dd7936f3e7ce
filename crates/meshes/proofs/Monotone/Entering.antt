-- An edge that begins beside another one and meets it at a common end only is above it, or below it.
use Rattle.std.proofs.Common.{◌≡◌, inl, inr, [], ◌∷◌, refl, sym, ℤ, pos, ◌+ℤ◌, ◌*ℤ◌, neg_ℤ, ◌<ℤ◌, ◌≤ℤ◌, ◌∙◌, arith}
use Rattle.std.proofs.lemmas.Int.{ints}
use Rattle.integer_algebra.proofs.OneSign.{OneSign}
use Rattle.integer_algebra.proofs.Polynomial.{neg, ◌⊕◌, ◌⊗◌, zero_value}
use Rattle.integer_algebra.proofs.SignSteps.{negative_not_zero, not_both, not_both_positive, opposite_not_negative, opposite_positive}
use Rattle.integer_algebra.proofs.SignSteps.{positive_not_zero, weak, weak_order, zero_not_negative}
use Rattle.integer_algebra.proofs.Signs.{lt_or_le}
use Rattle.plane.proofs.Meetings.{crossing_or_line}
use Rattle.plane.proofs.Order.{before_differs, before_trans, not_after_of_precedes, precedes_differs, rise, run, written_rise, written_run}
use Rattle.plane.proofs.Points.{whole_is_point}
use Rattle.plane.proofs.Turns.{parts, determinant as det, determinant_shift}
use Rattle.plane.specs.Prelude.{determinant, IsBefore, IsLeft, IsRight, Meet, Point, Triple, whole}
use Rattle.rings.proofs.Sweeps.{Part, none_gains, precedes_whole, same_of, way}
use Rattle.rings.specs.Apart.{MeetAtEnds}
use Rattle.rings.specs.Below.{IsBelow}
use Rattle.rings.specs.Edge.{Edge}

-- ---- ways from a point to a later one

-- such a way, with a weight
abbrev way_to : (w : ℤ) → pos 0 ≤ℤ w → (p q : Point) → IsBefore p q → Part
way_to w h p q k = way w h (whole p) (whole q) (not_after_of_precedes (whole p) (whole q) (precedes_whole p q k))

-- none, with no weight
abbrev no_way : Part
no_way = record { w = pos 0; x = pos 0; y = pos 0; weighs = zero_not_negative refl; forward = inr (refl, zero_not_negative refl) }

-- three ways with weights that are not negative do not balance, where one weight is positive
no_balance : (w u v : ℤ) (p q : Point) → pos 0 <ℤ w → pos 0 ≤ℤ u → pos 0 ≤ℤ v → IsBefore p q → (a b c d : Point) → IsBefore a b → IsBefore c d
    → w *ℤ run (whole q) (whole p) +ℤ u *ℤ run (whole b) (whole a) +ℤ v *ℤ run (whole d) (whole c) ≡ pos 0
    → w *ℤ rise (whole q) (whole p) +ℤ u *ℤ rise (whole b) (whole a) +ℤ v *ℤ rise (whole d) (whole c) ≡ pos 0 → ⊥
no_balance w u v p q hw hu hv pq a b c d ab cd e f =
    let n = none_gains (way_to w (weak hw) p q pq) (way_to u hu a b ab) (way_to v hv c d cd) no_way (omega (arith, ints)) (omega (arith, ints)) in
    elim n.0 [ inl none ↦ positive_not_zero hw none | inr none ↦ precedes_differs (whole p) (whole q) (precedes_whole p q pq) (same_of none) ]

-- ---- c is after a and before b and d

module _ (a b c d : Triple) where
  -- the ways from a to c and from c to the others balance, in X
  balance_X : determinant a b c *ℤ run d c +ℤ determinant a c d *ℤ run b c +ℤ determinant b c d *ℤ run c a ≡ pos 0
  balance_X =
      zero_value (det 0 1 2 ⊗ written_run 3 2 ⊕ det 0 2 3 ⊗ written_run 1 2 ⊕ det 1 2 3 ⊗ written_run 2 0) (parts (a ∷ b ∷ c ∷ d ∷ []) []) refl

  -- and in Y
  balance_Y : determinant a b c *ℤ rise d c +ℤ determinant a c d *ℤ rise b c +ℤ determinant b c d *ℤ rise c a ≡ pos 0
  balance_Y =
      zero_value (det 0 1 2 ⊗ written_rise 3 2 ⊕ det 0 2 3 ⊗ written_rise 1 2 ⊕ det 1 2 3 ⊗ written_rise 2 0) (parts (a ∷ b ∷ c ∷ d ∷ []) []) refl

  -- the same with the opposite weights
  opposite_X : neg_ℤ (determinant a b c) *ℤ run d c +ℤ neg_ℤ (determinant a c d) *ℤ run b c +ℤ neg_ℤ (determinant b c d) *ℤ run c a ≡ pos 0
  opposite_X =
      zero_value (neg (det 0 1 2) ⊗ written_run 3 2 ⊕ neg (det 0 2 3) ⊗ written_run 1 2 ⊕ neg (det 1 2 3) ⊗ written_run 2 0)
      (parts (a ∷ b ∷ c ∷ d ∷ []) []) refl

  opposite_Y : neg_ℤ (determinant a b c) *ℤ rise d c +ℤ neg_ℤ (determinant a c d) *ℤ rise b c +ℤ neg_ℤ (determinant b c d) *ℤ rise c a ≡ pos 0
  opposite_Y =
      zero_value (neg (det 0 1 2) ⊗ written_rise 3 2 ⊕ neg (det 0 2 3) ⊗ written_rise 1 2 ⊕ neg (det 1 2 3) ⊗ written_rise 2 0)
      (parts (a ∷ b ∷ c ∷ d ∷ []) []) refl

-- where the one number is not negative the other is, so they do not have one sign
unlike : {u v : ℤ} → pos 0 ≤ℤ v → ¬ (pos 0 ≤ℤ u) → ¬ (OneSign u v)
unlike h n (inl k) = n (weak k.0)
unlike h n (inr k) = not_both k.1 h

-- the same for the other signs
unlike_opposite : {u v : ℤ} → v ≤ℤ pos 0 → ¬ (u ≤ℤ pos 0) → ¬ (OneSign u v)
unlike_opposite h n (inl k) = not_both_positive k.1 h
unlike_opposite h n (inr k) = n (weak_order k.0)

-- edge f begins while edge e runs
module _ (e f : Edge) (forward : IsBefore f.from f.to) (apart : MeetAtEnds e f) (begun : IsBefore e.from f.from) (runs : IsBefore f.from e.to) where
  abbrev side : Point → Point → Point → ℤ
  side p q r = determinant (whole p) (whole q) (whole r)

  -- the two share at most their last ends
  last_ends : Meet (whole e.from) (whole e.to) (whole f.from) (whole f.to) → e.to ≡ f.to
  last_ends meet =
      let common = apart meet.point meet.rational meet.on_first meet.on_second in
      elim common.of_first [
        | inl first ↦ elim common.of_second [
          | inl k ↦ absurd (before_differs e.from f.from begun (first ∙ sym k))
          | inr k ↦ absurd (before_differs e.from f.to (before_trans e.from f.from f.to begun forward) (first ∙ sym k))
        ]
        | inr last ↦ elim common.of_second [
          | inl k ↦ absurd (before_differs f.from e.to runs (k ∙ sym last))
          | inr k ↦ last ∙ sym k
        ]
      ]

  -- they do where neither is beside the line of the other
  no_line : ¬ (side e.from e.to f.from ≡ pos 0) → ¬ (OneSign (side e.from e.to f.from) (side e.from e.to f.to))
      → ¬ (OneSign (side f.from f.to e.from) (side f.from f.to e.to)) → e.to ≡ f.to
  no_line beside n m =
      elim (crossing_or_line (whole e.from) (whole e.to) (whole f.from) (whole f.to) (whole_is_point e.from) (whole_is_point e.to)
      (whole_is_point f.from) (whole_is_point f.to) n m) [
        | inl meet ↦ last_ends meet
        | inr line ↦ absurd (beside line.abc)
      ]

  -- edge e does not begin to the left of the line of f where it ends there or on it
  not_left : pos 0 <ℤ side e.from e.to f.from → pos 0 ≤ℤ side f.from f.to e.to → ¬ (pos 0 ≤ℤ side f.from f.to e.from)
  not_left above after before =
      no_balance (side e.from e.to f.from) (side e.from f.from f.to) (side e.to f.from f.to) f.from f.to above
      (rw (← determinant_shift (whole e.from) (whole f.from) (whole f.to)) before)
      (rw (← determinant_shift (whole e.to) (whole f.from) (whole f.to)) after)
      forward f.from e.to e.from f.from runs begun
      (balance_X (whole e.from) (whole e.to) (whole f.from) (whole f.to)) (balance_Y (whole e.from) (whole e.to) (whole f.from) (whole f.to))

  -- nor to the right
  not_right : side e.from e.to f.from <ℤ pos 0 → side f.from f.to e.to ≤ℤ pos 0 → ¬ (side f.from f.to e.from ≤ℤ pos 0)
  not_right below after before =
      no_balance (neg_ℤ (side e.from e.to f.from)) (neg_ℤ (side e.from f.from f.to)) (neg_ℤ (side e.to f.from f.to)) f.from f.to
      (opposite_positive below)
      (opposite_not_negative (rw (← determinant_shift (whole e.from) (whole f.from) (whole f.to)) before))
      (opposite_not_negative (rw (← determinant_shift (whole e.to) (whole f.from) (whole f.to)) after))
      forward f.from e.to e.from f.from runs begun
      (opposite_X (whole e.from) (whole e.to) (whole f.from) (whole f.to)) (opposite_Y (whole e.from) (whole e.to) (whole f.from) (whole f.to))

  -- to the left of it
  pub enters_above : IsLeft (whole e.from) (whole e.to) (whole f.from) → IsBelow e f
  enters_above left = record {
    start = inl (inl left);
    finish = elim (lt_or_le (pos 0) (side e.from e.to f.to)) [
      | inl above ↦ inl (inl above)
      | inr under ↦ elim (lt_or_le (side f.from f.to e.to) (pos 0)) [
        | inl right ↦ inl (inr right)
        | inr after ↦ inr (no_line (positive_not_zero left) (unlike_opposite under (λ h. not_both_positive left h))
            (unlike after (not_left left after)))
      ]
    ];
    differ = λ same last. before_differs e.from f.from begun same;
  }

  -- to the right
  pub enters_below : IsRight (whole e.from) (whole e.to) (whole f.from) → IsBelow f e
  enters_below right = record {
    start = inl (inr right);
    finish = elim (lt_or_le (side e.from e.to f.to) (pos 0)) [
      | inl under ↦ inl (inr under)
      | inr above ↦ elim (lt_or_le (pos 0) (side f.from f.to e.to)) [
        | inl left ↦ inl (inl left)
        | inr after ↦
            inr (sym (no_line (negative_not_zero right) (unlike above (λ h. not_both right h)) (unlike_opposite after (not_right right after))))
      ]
    ];
    differ = λ same last. before_differs e.from f.from begun (sym same);
  }
