-- Signs of the four determinants of a segment and an edge that do not meet, over plain integers.
-- The edge's ends are beside the segment's line by u and w; the segment's lower and higher end are beside the edge's line by
-- d and e. The edge's ends are f and g above the lower end, and i and j above the higher one, which is h above the lower.
use Rattle.std.proofs.Common.{◌≡◌, inl, inr, ℤ, pos, ◌-ℤ◌, ◌*ℤ◌, neg_ℤ, ◌<ℤ◌, ◌≤ℤ◌, arith}
use Rattle.std.proofs.lemmas.Int.{ints}
use Rattle.integer_algebra.proofs.Laws.{mul-neg, mul_comm, neg-mul}
use Rattle.integer_algebra.proofs.SignSteps.{weak}
use Rattle.integer_algebra.proofs.Signs.{lt_or_le, mul_nonnegative, mul_nonpositive, mul_nonpositives, mul_positive}
use Rattle.integer_algebra.proofs.Weights.{weighted_positive}

-- two weighted sums
pub record Relations (u w d e f g i j h : ℤ) : Type 0 where
  pub over_lower : w *ℤ f -ℤ u *ℤ g ≡ d *ℤ h
  pub over_higher : w *ℤ i -ℤ u *ℤ j ≡ e *ℤ h

-- two numbers have one sign, or both are 0
pub data Alike (u v : ℤ) : Type 0 where
  both_positive : pos 0 <ℤ u → pos 0 <ℤ v → Alike u v
  both_negative : u <ℤ pos 0 → v <ℤ pos 0 → Alike u v
  both_zero : u ≡ pos 0 → v ≡ pos 0 → Alike u v

-- both ends of the edge, or both ends of the segment, are left of the other's line
pub data Ahead (u w d e : ℤ) : Type 0 where
  ends_left : pos 0 <ℤ u → pos 0 <ℤ w → Ahead u w d e
  points_left : pos 0 <ℤ d → pos 0 <ℤ e → Ahead u w d e

-- or they are right of it, or all four are on one line
pub data Apart (u w d e : ℤ) : Type 0 where
  ahead : Ahead u w d e → Apart u w d e
  behind : Ahead (neg_ℤ u) (neg_ℤ w) (neg_ℤ d) (neg_ℤ e) → Apart u w d e
  in_line : u ≡ pos 0 → w ≡ pos 0 → d ≡ pos 0 → e ≡ pos 0 → Apart u w d e

-- in a mirror, numbers of one sign have one sign
unmirrored : (u v : ℤ) → Alike (neg_ℤ u) (neg_ℤ v) → Alike u v
unmirrored u v (both_positive h k) = both_negative (omega (arith, ints)) (omega (arith, ints))
unmirrored u v (both_negative h k) = both_positive (omega (arith, ints)) (omega (arith, ints))
unmirrored u v (both_zero h k) = both_zero (omega (arith, ints)) (omega (arith, ints))

-- a number that is not negative is positive where it may not be 0
positive_from : (u w : ℤ) → (pos 0 ≤ℤ w → u ≤ℤ pos 0 → ⊥) → pos 0 ≤ℤ u → pos 0 <ℤ w → pos 0 <ℤ u
positive_from u w k n m = elim (lt_or_le (pos 0) u) [ inl l ↦ l | inr l ↦ absurd (k (omega (arith, ints)) l) ]

-- numbers have one sign, or are both 0, where none is on both sides of 0 from the other
alike_from : (u w : ℤ) → (w ≤ℤ pos 0 → pos 0 ≤ℤ u → ⊥) → (pos 0 ≤ℤ w → u ≤ℤ pos 0 → ⊥) → Alike u w
alike_from u w h k = elim (lt_or_le u (pos 0)) [
  | inl n ↦ elim (lt_or_le w (pos 0)) [
    | inl m ↦ both_negative n m
    | inr m ↦ absurd (k m (omega (arith, ints)))
  ]
  | inr n ↦ elim (lt_or_le (pos 0) w) [
    | inl m ↦ both_positive (positive_from u w k n m) m
    | inr m ↦ absurd (h m n)
  ]
]

-- ---- sums

-- no positive product is x less y, where x is not positive and y not negative
no_rise : (x y d h : ℤ) → pos 0 <ℤ d → pos 0 <ℤ h → x -ℤ y ≡ d *ℤ h → x ≤ℤ pos 0 → pos 0 ≤ℤ y → ⊥
no_rise x y d h hd hh e hx hy = omega (arith, ints, mul_positive d h hd hh)

-- a negative product has a negative factor, where the other is not negative
negative_factor : (z h : ℤ) → pos 0 ≤ℤ h → (z *ℤ h) <ℤ pos 0 → z <ℤ pos 0
negative_factor z h hh n = elim (lt_or_le z (pos 0)) [
  | inl k ↦ k
  | inr k ↦ absurd (omega (arith, ints, mul_nonnegative z h k hh))
]

-- positive weights of x, which is not positive, and of y, which is not negative, make a fall
fall : (u w x y z h : ℤ) → pos 0 <ℤ u → pos 0 <ℤ w → x ≤ℤ pos 0 → pos 0 ≤ℤ y → x <ℤ y → pos 0 ≤ℤ h → w *ℤ x -ℤ u *ℤ y ≡ z *ℤ h
    → z <ℤ pos 0
fall u w x y z h hu hw hx hy some hh e =
    let rest = weighted_positive (neg_ℤ x) y (omega (arith, ints)) hy (omega (arith, ints)) w u hw hu in
    negative_factor z h hh (omega (arith, ints, rest, neg-mul x w, mul_comm x w, mul_comm y u))

-- with all sides exchanged,
negated_sum : (u w x y z h : ℤ) → w *ℤ x -ℤ u *ℤ y ≡ z *ℤ h → neg_ℤ w *ℤ x -ℤ neg_ℤ u *ℤ y ≡ neg_ℤ z *ℤ h
negated_sum u w x y z h e = omega (arith, ints, neg-mul w x, neg-mul u y, neg-mul z h)

-- with the two ends exchanged,
backward_sum : (u w x y z h : ℤ) → w *ℤ x -ℤ u *ℤ y ≡ z *ℤ h → u *ℤ y -ℤ w *ℤ x ≡ neg_ℤ z *ℤ h
backward_sum u w x y z h e = omega (arith, ints, neg-mul z h)

-- and with all heights exchanged the sums agree
turned_sum : (u w x y z h : ℤ) → w *ℤ x -ℤ u *ℤ y ≡ z *ℤ h → u *ℤ neg_ℤ y -ℤ w *ℤ neg_ℤ x ≡ z *ℤ h
turned_sum u w x y z h e = omega (arith, ints, mul-neg u y, mul-neg w x)

-- ---- the same figure seen otherwise

module _ (u w d e f g i j h : ℤ) (r : Relations u w d e f g i j h) where
  -- in a mirror
  mirrored : Relations (neg_ℤ u) (neg_ℤ w) (neg_ℤ d) (neg_ℤ e) f g i j h
  mirrored = record { over_lower = negated_sum u w f g d h r.over_lower; over_higher = negated_sum u w i j e h r.over_higher }

  -- with the edge read backward
  pub relations_backward : Relations w u (neg_ℤ d) (neg_ℤ e) g f j i h
  relations_backward = record { over_lower = backward_sum u w f g d h r.over_lower; over_higher = backward_sum u w i j e h r.over_higher }

  -- turned upside down
  pub turned : Relations w u e d (neg_ℤ j) (neg_ℤ i) (neg_ℤ g) (neg_ℤ f) h
  turned = record { over_lower = turned_sum u w i j e h r.over_higher; over_higher = turned_sum u w f g d h r.over_lower }

-- ---- which sides agree

-- the first end is low, and the second between the heights of the segment's ends
module _ (f g i j h : ℤ) (hf : f ≤ℤ pos 0) (hg : pos 0 ≤ℤ g) (some : f <ℤ g) (hi : i ≤ℤ pos 0) (hj : j ≤ℤ pos 0)
    (hh : pos 0 <ℤ h) where
  -- where two points are left of a line
  end_between_ahead : (u w d e : ℤ) → Relations u w d e f g i j h → Ahead u w d e → Alike d (neg_ℤ w)
  end_between_ahead u w d e r (ends_left hu hw) =
      both_negative (fall u w f g d h hu hw hf hg some (omega (arith, ints)) r.over_lower) (omega (arith, ints))
  end_between_ahead u w d e r (points_left hd he) = elim (lt_or_le w (pos 0)) [
    | inl n ↦ both_positive hd (omega (arith, ints))
    | inr n ↦ absurd (elim (lt_or_le (pos 0) u) [
      | inl k ↦ no_rise (w *ℤ f) (u *ℤ g) d h hd hh r.over_lower (mul_nonpositive w f n hf) (mul_nonnegative u g (weak k) hg)
      | inr k ↦ no_rise (w *ℤ i) (u *ℤ j) e h he hh r.over_higher (mul_nonpositive w i n hi) (mul_nonpositives u j k hj)
    ])
  ]

  -- the lower point is left of the edge's line exactly where the second end is right of the segment's
  pub end_between : (u w d e : ℤ) → Relations u w d e f g i j h → Apart u w d e → Alike d (neg_ℤ w)
  end_between u w d e r (ahead k) = end_between_ahead u w d e r k
  end_between u w d e r (behind k) =
      unmirrored d (neg_ℤ w) (end_between_ahead (neg_ℤ u) (neg_ℤ w) (neg_ℤ d) (neg_ℤ e) (mirrored u w d e f g i j h r) k)
  end_between u w d e r (in_line u0 w0 d0 e0) = both_zero d0 (omega (arith, ints))

-- the first end is low, and the second high
module _ (f g i j h : ℤ) (hf : f ≤ℤ pos 0) (hg : pos 0 <ℤ g) (hi : i ≤ℤ pos 0) (hj : pos 0 <ℤ j) (hh : pos 0 ≤ℤ h) where
  -- where two points are left of a line
  points_alike_ahead : (u w d e : ℤ) → Relations u w d e f g i j h → Ahead u w d e → Alike d e
  points_alike_ahead u w d e r (ends_left hu hw) = both_negative
      (fall u w f g d h hu hw hf (omega (arith, ints)) (omega (arith, ints)) hh r.over_lower)
      (fall u w i j e h hu hw hi (omega (arith, ints)) (omega (arith, ints)) hh r.over_higher)
  points_alike_ahead u w d e r (points_left hd he) = both_positive hd he

  -- both points are on one side of the edge's line
  pub points_alike : (u w d e : ℤ) → Relations u w d e f g i j h → Apart u w d e → Alike d e
  points_alike u w d e r (ahead k) = points_alike_ahead u w d e r k
  points_alike u w d e r (behind k) =
      unmirrored d e (points_alike_ahead (neg_ℤ u) (neg_ℤ w) (neg_ℤ d) (neg_ℤ e) (mirrored u w d e f g i j h r) k)
  points_alike u w d e r (in_line u0 w0 d0 e0) = both_zero d0 e0

-- both ends are between
module _ (f g i j h : ℤ) (hf : pos 0 ≤ℤ f) (hg : pos 0 ≤ℤ g) (hi : i ≤ℤ pos 0) (hj : j ≤ℤ pos 0) (hh : pos 0 <ℤ h) where
  -- where two points are left of a line
  ends_alike_ahead : (u w d e : ℤ) → Relations u w d e f g i j h → Ahead u w d e → Alike u w
  ends_alike_ahead u w d e r (ends_left hu hw) = both_positive hu hw
  ends_alike_ahead u w d e r (points_left hd he) =
      let lower = no_rise (w *ℤ f) (u *ℤ g) d h hd hh r.over_lower in
      let higher = no_rise (w *ℤ i) (u *ℤ j) e h he hh r.over_higher in
      alike_from u w
      (λ hw hu. lower (omega (arith, ints, mul_comm w f, mul_nonpositive f w hf hw)) (mul_nonnegative u g hu hg))
      (λ hw hu. higher (mul_nonpositive w i hw hi) (mul_nonpositives u j hu hj))

  -- both are on one side of the segment's line
  pub ends_alike : (u w d e : ℤ) → Relations u w d e f g i j h → Apart u w d e → Alike u w
  ends_alike u w d e r (ahead k) = ends_alike_ahead u w d e r k
  ends_alike u w d e r (behind k) =
      unmirrored u w (ends_alike_ahead (neg_ℤ u) (neg_ℤ w) (neg_ℤ d) (neg_ℤ e) (mirrored u w d e f g i j h r) k)
  ends_alike u w d e r (in_line u0 w0 d0 e0) = both_zero u0 w0
