-- The signed crossings of an edge from the two ends of a segment that crosses it, over plain integers.
-- The names of the integers are those of `EdgeSigns`.
use Rattle.std.proofs.Common.{◌≡◌, inl, inr, refl, ap, ◌∙◌, ℤ, pos, negsuc, ◌+ℤ◌, ◌-ℤ◌, neg_ℤ, ◌<ℤ◌, ◌≤ℤ◌, arith}
use Rattle.std.proofs.lemmas.Int.{ints}
use Rattle.integer_algebra.proofs.Laws.{mul-neg, mul_comm, neg-mul}
use Rattle.integer_algebra.proofs.SignSteps.{opposite_not_negative, opposite_not_positive, opposite_positive, weak}
use Rattle.integer_algebra.proofs.Signs.{lt_or_le, mul_nonnegative, mul_nonpositive, mul_positive}
use Rattle.integer_algebra.proofs.Weights.{weighted_positive}
use Rattle.rings.proofs.Crossings.EdgeCases.{Differ, Level, between, differ_from, high, low}
use Rattle.rings.proofs.Crossings.EdgeSigns.{Relations}
use Rattle.rings.proofs.Crossings.SignedCrossing.{counted, counted_between, counted_high, counted_low, positive_no, positive_yes, signed}
use Rattle.rings.proofs.Crossings.SignedCrossing.{signed_falling, signed_high, signed_low, signed_rising}

-- the segment crosses the edge from its left to its right
module _ (u w d e f g i j h : ℤ) (r : Relations u w d e f g i j h) (hh : pos 0 ≤ℤ h)
    (on_line : f ≡ pos 0 → g ≡ pos 0 → d ≡ pos 0) (hu : u <ℤ pos 0) (hw : pos 0 <ℤ w) (hd : pos 0 <ℤ d) (he : e <ℤ pos 0) where
  -- an end of the edge is above the lower end of the segment
  no_low : f ≤ℤ pos 0 → g ≤ℤ pos 0 → ⊥
  no_low hf hg =
      let rest = mul_nonnegative d h (omega (arith, ints)) hh in
      let sum = r.over_lower in
      elim (lt_or_le (f +ℤ g) (pos 0)) [
        | inl n ↦
            let weighted = weighted_positive (neg_ℤ f) (neg_ℤ g) (opposite_not_negative hf) (opposite_not_negative hg) in
            let fall = weighted (omega (arith, ints)) w (neg_ℤ u) hw (opposite_positive hu) in
            omega (arith, ints, fall, rest, sum, neg-mul f w, neg-mul g (neg_ℤ u), mul-neg g u, mul_comm f w, mul_comm g u)
        | inr n ↦ let flat = on_line (omega (arith, ints)) (omega (arith, ints)) in omega (arith, ints)
      ]

  -- and an end not above the higher one
  no_high : pos 0 <ℤ i → pos 0 <ℤ j → ⊥
  no_high hi hj =
      let first = mul_positive w i hw hi in
      let second = mul_positive (neg_ℤ u) j (omega (arith, ints)) hj in
      let rest = mul_nonpositive h e hh (omega (arith, ints)) in
      omega (arith, ints, first, second, rest, r.over_higher, neg-mul u j, mul_comm h e)

  -- ---- what is counted at each

  -- an edge that rises past the left point is crossed from it, one that falls past it not
  left_rising : f ≤ℤ pos 0 → pos 0 <ℤ g → signed f g d ≡ pos 1
  left_rising hf hg = signed_rising f g d hf hg ∙ positive_yes d hd

  left_falling : pos 0 <ℤ f → g ≤ℤ pos 0 → signed f g d ≡ pos 0
  left_falling hf hg = signed_falling f g d hf hg ∙ ap neg_ℤ (positive_no (neg_ℤ d) (opposite_not_positive (weak hd)))

  -- an edge that falls past the right point is crossed from it, one that rises past it not
  right_rising : i ≤ℤ pos 0 → pos 0 <ℤ j → signed i j e ≡ pos 0
  right_rising hi hj = signed_rising i j e hi hj ∙ positive_no e (omega (arith, ints))

  right_falling : pos 0 <ℤ i → j ≤ℤ pos 0 → signed i j e ≡ negsuc 0
  right_falling hi hj = signed_falling i j e hi hj ∙ ap neg_ℤ (positive_yes (neg_ℤ e) (opposite_positive he))

  -- the first end is right of the segment, and counts where it is between; the second not
  first_between : pos 0 <ℤ f → i ≤ℤ pos 0 → counted f i u ≡ pos 1
  first_between hf hi = counted_between f i u hf hi ∙ positive_yes (neg_ℤ u) (opposite_positive hu)

  second_between : pos 0 <ℤ g → j ≤ℤ pos 0 → counted g j w ≡ pos 0
  second_between hg hj = counted_between g j w hg hj ∙ positive_no (neg_ℤ w) (opposite_not_positive (weak hw))

  -- the difference by the four values
  differ : {s t v n : ℤ} → signed f g d ≡ s → signed i j e ≡ t → counted g j w ≡ v → counted f i u ≡ n
      → s -ℤ t ≡ (v -ℤ n) +ℤ pos 1 → Differ u w d e f g i j (pos 1)
  differ = differ_from u w d e f g i j (pos 1)

  -- the crossing from the left point is greater by one more
  pub differ_crossed : Level f i h → Level g j h → Differ u w d e f g i j (pos 1)
  differ_crossed (low hf hi) (low hg hj) = absurd (no_low hf hg)
  differ_crossed (low hf hi) (between hg hj some) =
      differ (left_rising hf hg) (signed_low i j e hi hj) (second_between hg hj) (counted_low f i u hf) refl
  differ_crossed (low hf hi) (high hg hj) =
      differ (left_rising hf hg) (right_rising hi hj) (counted_high g j w hj) (counted_low f i u hf) refl
  differ_crossed (between hf hi some) (low hg hj) =
      differ (left_falling hf hg) (signed_low i j e hi hj) (counted_low g j w hg) (first_between hf hi) refl
  differ_crossed (between hf hi some) (between hg hj same) =
      differ (signed_high f g d hf hg) (signed_low i j e hi hj) (second_between hg hj) (first_between hf hi) refl
  differ_crossed (between hf hi some) (high hg hj) =
      differ (signed_high f g d hf hg) (right_rising hi hj) (counted_high g j w hj) (first_between hf hi) refl
  differ_crossed (high hf hi) (low hg hj) =
      differ (left_falling hf hg) (right_falling hi hj) (counted_low g j w hg) (counted_high f i u hi) refl
  differ_crossed (high hf hi) (between hg hj some) =
      differ (signed_high f g d hf hg) (right_falling hi hj) (second_between hg hj) (counted_high f i u hi) refl
  differ_crossed (high hf hi) (high hg hj) = absurd (no_high hi hj)
