-- The signed crossings of an edge from the two ends of a segment that it does not meet, over plain integers.
-- The names of the integers are those of `EdgeSigns`.
use Rattle.std.proofs.Common.{◌≡◌, refl, sym, ap, ◌∙◌, ℤ, pos, ◌+ℤ◌, ◌-ℤ◌, neg_ℤ, ◌<ℤ◌, ◌≤ℤ◌, arith}
use Rattle.std.proofs.lemmas.Int.{ints}
use Rattle.integer_algebra.proofs.SignSteps.{opposite_not_negative, opposite_not_positive, weak}
use Rattle.rings.proofs.Crossings.EdgeSigns.{Ahead, Alike, Apart, Relations, ahead, behind, both_negative, both_positive, both_zero, end_between}
use Rattle.rings.proofs.Crossings.EdgeSigns.{ends_alike, ends_left, in_line, points_alike, points_left, relations_backward, turned}
use Rattle.rings.proofs.Crossings.SignedCrossing.{counted, counted_between, counted_high, counted_low, positive_alike, signed, signed_backward}
use Rattle.rings.proofs.Crossings.SignedCrossing.{signed_high, signed_low, signed_rising}

-- an end of the edge is not above the lower end of the segment, or between, or above the higher end
pub data Level (f i h : ℤ) : Type 0 where
  low : f ≤ℤ pos 0 → i ≤ℤ pos 0 → Level f i h
  between : pos 0 <ℤ f → i ≤ℤ pos 0 → pos 0 <ℤ h → Level f i h
  high : pos 0 <ℤ f → pos 0 <ℤ i → Level f i h

-- the signed crossings differ as the counts of the ends do, and by some more
pub record Differ (u w d e f g i j more : ℤ) : Type 0 where
  pub is : signed f g d -ℤ signed i j e ≡ (counted g j w -ℤ counted f i u) +ℤ more

-- ---- the same figure seen otherwise: in a mirror, turned upside down, with the edge read backward

-- numbers of one sign have one sign in a mirror
alike_mirrored : (u v : ℤ) → Alike u v → Alike (neg_ℤ u) (neg_ℤ v)
alike_mirrored u v (both_positive h k) = both_negative (omega (arith, ints)) (omega (arith, ints))
alike_mirrored u v (both_negative h k) = both_positive (omega (arith, ints)) (omega (arith, ints))
alike_mirrored u v (both_zero h k) = both_zero (omega (arith, ints)) (omega (arith, ints))

-- two points are left of a line upside down
ahead_turned : (u w d e : ℤ) → Ahead u w d e → Ahead w u e d
ahead_turned u w d e (ends_left h k) = ends_left k h
ahead_turned u w d e (points_left h k) = points_left k h

-- the two are apart upside down,
apart_turned : (u w d e : ℤ) → Apart u w d e → Apart w u e d
apart_turned u w d e (ahead h) = ahead (ahead_turned _ _ _ _ h)
apart_turned u w d e (behind h) = behind (ahead_turned _ _ _ _ h)
apart_turned u w d e (in_line u0 w0 d0 e0) = in_line w0 u0 e0 d0

-- and with the edge read backward
apart_backward : (u w d e : ℤ) → Apart u w d e → Apart w u (neg_ℤ d) (neg_ℤ e)
apart_backward u w d e (ahead (ends_left h k)) = ahead (ends_left k h)
apart_backward u w d e (ahead (points_left h k)) = behind (points_left (omega (arith, ints)) (omega (arith, ints)))
apart_backward u w d e (behind (ends_left h k)) = behind (ends_left k h)
apart_backward u w d e (behind (points_left h k)) = ahead (points_left h k)
apart_backward u w d e (in_line u0 w0 d0 e0) = in_line w0 u0 (omega (arith, ints)) (omega (arith, ints))

-- equal numbers do not differ
no_difference : (x y : ℤ) → x ≡ y → x -ℤ y ≡ pos 0 -ℤ pos 0
no_difference x y e = omega (arith, ints)

-- what the crossings of the edge read backward differ by, its own do
differ_backward : (u w d e f g i j : ℤ) → Differ w u (neg_ℤ d) (neg_ℤ e) g f j i (pos 0) → Differ u w d e f g i j (pos 0)
differ_backward u w d e f g i j k = record { is = omega (arith, ints, k.is, signed_backward f g d, signed_backward i j e) }

-- ---- where the edge and the segment do not meet

-- the difference by the four values
pub differ_from : (u w d e f g i j more : ℤ) {s t v n : ℤ} → signed f g d ≡ s → signed i j e ≡ t → counted g j w ≡ v
    → counted f i u ≡ n → s -ℤ t ≡ (v -ℤ n) +ℤ more → Differ u w d e f g i j more
differ_from u w d e f g i j more lower higher last first sum = record {
  is = (λ k. lower k -ℤ higher k) ∙ sum ∙ (λ k. (sym last k -ℤ sym first k) +ℤ more);
}

module _ (u w d e f g i j h : ℤ) (r : Relations u w d e f g i j h) (a : Apart u w d e) where
  -- without more
  differ : {s t v n : ℤ} → signed f g d ≡ s → signed i j e ≡ t → counted g j w ≡ v → counted f i u ≡ n → s -ℤ t ≡ v -ℤ n
      → Differ u w d e f g i j (pos 0)
  differ lower higher last first sum = differ_from u w d e f g i j (pos 0) lower higher last first (omega (arith, ints))

  -- the first end is low, the second between
  low_between : f ≤ℤ pos 0 → i ≤ℤ pos 0 → pos 0 <ℤ g → j ≤ℤ pos 0 → pos 0 <ℤ h → Differ u w d e f g i j (pos 0)
  low_between hf hi hg hj hh =
      let alike = end_between f g i j h hf (weak hg) (omega (arith, ints)) hi hj hh u w d e r a in
      differ (signed_rising f g d hf hg) (signed_low i j e hi hj) (counted_between g j w hg hj) (counted_low f i u hf)
      (ap (λ z. z -ℤ pos 0) (positive_alike _ _ alike))

  -- the first end is low, the second high
  low_high : f ≤ℤ pos 0 → i ≤ℤ pos 0 → pos 0 <ℤ g → pos 0 <ℤ j → pos 0 ≤ℤ h → Differ u w d e f g i j (pos 0)
  low_high hf hi hg hj hh =
      let alike = points_alike f g i j h hf hg hi hj hh u w d e r a in
      differ (signed_rising f g d hf hg) (signed_rising i j e hi hj) (counted_high g j w hj) (counted_low f i u hf)
      (no_difference _ _ (positive_alike _ _ alike))

  -- the first end is between, the second high
  between_high : pos 0 <ℤ f → i ≤ℤ pos 0 → pos 0 <ℤ g → pos 0 <ℤ j → pos 0 <ℤ h → Differ u w d e f g i j (pos 0)
  between_high hf hi hg hj hh =
      let figure = turned u w d e f g i j h r in
      let sides = apart_turned u w d e a in
      let rises : neg_ℤ j <ℤ neg_ℤ i = omega (arith, ints) in
      let alike =
      end_between (neg_ℤ j) (neg_ℤ i) (neg_ℤ g) (neg_ℤ f) h (opposite_not_positive (weak hj)) (opposite_not_negative hi) rises
      (opposite_not_positive (weak hg)) (opposite_not_positive (weak hf)) hh w u e d figure sides in
      differ (signed_high f g d hf hg) (signed_rising i j e hi hj) (counted_high g j w hj) (counted_between f i u hf hi)
      (ap (λ z. pos 0 -ℤ z) (positive_alike _ _ alike))

  -- both are between
  between_between : pos 0 <ℤ f → i ≤ℤ pos 0 → pos 0 <ℤ g → j ≤ℤ pos 0 → pos 0 <ℤ h → Differ u w d e f g i j (pos 0)
  between_between hf hi hg hj hh =
      let alike = alike_mirrored _ _ (ends_alike f g i j h (weak hf) (weak hg) hi hj hh u w d e r a) in
      differ (signed_high f g d hf hg) (signed_low i j e hi hj) (counted_between g j w hg hj) (counted_between f i u hf hi)
      (sym (no_difference _ _ (sym (positive_alike _ _ alike))))

module _ (u w d e f g i j h : ℤ) (r : Relations u w d e f g i j h) (a : Apart u w d e) (hh : pos 0 ≤ℤ h) where
  -- the figure with the edge read backward
  back : Relations w u (neg_ℤ d) (neg_ℤ e) g f j i h
  back = relations_backward u w d e f g i j h r

  -- which is apart from the segment too
  apart_back : Apart w u (neg_ℤ d) (neg_ℤ e)
  apart_back = apart_backward u w d e a

  -- whatever the heights of the ends are
  pub differ_apart : Level f i h → Level g j h → Differ u w d e f g i j (pos 0)
  differ_apart (low hf hi) (low hg hj) =
      differ u w d e f g i j h r a
      (signed_low f g d hf hg) (signed_low i j e hi hj) (counted_low g j w hg) (counted_low f i u hf) refl
  differ_apart (low hf hi) (between hg hj some) = low_between u w d e f g i j h r a hf hi hg hj some
  differ_apart (low hf hi) (high hg hj) = low_high u w d e f g i j h r a hf hi hg hj hh
  differ_apart (between hf hi some) (low hg hj) =
      differ_backward u w d e f g i j (low_between w u (neg_ℤ d) (neg_ℤ e) g f j i h back apart_back hg hj hf hi some)
  differ_apart (between hf hi some) (between hg hj same) = between_between u w d e f g i j h r a hf hi hg hj some
  differ_apart (between hf hi some) (high hg hj) = between_high u w d e f g i j h r a hf hi hg hj some
  differ_apart (high hf hi) (low hg hj) =
      differ_backward u w d e f g i j (low_high w u (neg_ℤ d) (neg_ℤ e) g f j i h back apart_back hg hj hf hi hh)
  differ_apart (high hf hi) (between hg hj some) =
      differ_backward u w d e f g i j (between_high w u (neg_ℤ d) (neg_ℤ e) g f j i h back apart_back hg hj hf hi some)
  differ_apart (high hf hi) (high hg hj) =
      differ u w d e f g i j h r a
      (signed_high f g d hf hg) (signed_high i j e hi hj) (counted_high g j w hj) (counted_high f i u hi) refl
