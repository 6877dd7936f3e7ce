-- Laws of intervals and boxes that meet.
use Rattle.std.proofs.Common.{◌≡◌, ◌+ℤ◌, ℤ, pos, ◌*ℤ◌, ◌<ℤ◌, ◌≤ℤ◌, arith}
use Rattle.std.proofs.lemmas.Int.{clamps, ints}
use Rattle.std.specs.Int.{int_max, int_min}
use Rattle.integer_algebra.proofs.Laws.{mul_comm}
use Rattle.integer_algebra.proofs.Signs.{cancel_order}
use Rattle.integer_algebra.proofs.Weights.{at_least, at_most}
use Rattle.plane.proofs.Turns.{IsCombination}
use Rattle.plane.specs.Box.{BoxesMeet, IntervalsMeet}
use Rattle.plane.specs.Point.{IsPoint, Point, Triple, whole}

-- ---- intervals

module _ (a b c d : ℤ) (h : IntervalsMeet a b c d) where
  -- the first interval may be read backward
  intervals_reversed_first : IntervalsMeet b a c d
  intervals_reversed_first = record {
    first_reaches = omega (arith, ints, clamps, h.first_reaches);
    second_reaches = omega (arith, ints, clamps, h.second_reaches);
  }

  -- the two may change places
  intervals_swapped : IntervalsMeet c d a b
  intervals_swapped = record { first_reaches = h.second_reaches; second_reaches = h.first_reaches }

  -- the first, read forward, does not end before the second begins
  pub intervals_not_before : a ≤ℤ b → c ≤ℤ d → ¬ (b <ℤ c)
  intervals_not_before p q k = omega (arith, ints, clamps, h.second_reaches)

-- x / w is in the interval between a and b
pub record IsInInterval (x w a b : ℤ) : Type 0 where
  pub least : (int_min a b *ℤ w) ≤ℤ x
  pub greatest : x ≤ℤ (int_max a b *ℤ w)

-- a lower bound of x / w is not above an upper bound
bounds_in_order : (l m x w : ℤ) → pos 0 <ℤ w → (l *ℤ w) ≤ℤ x → x ≤ℤ (m *ℤ w) → l ≤ℤ m
bounds_in_order l m x w h p q = cancel_order l m w h (omega (arith, ints, mul_comm l w, mul_comm m w))

-- intervals that share x / w meet
intervals_meet_at : (a b c d x w : ℤ) → pos 0 <ℤ w → IsInInterval x w a b → IsInInterval x w c d → IntervalsMeet a b c d
intervals_meet_at a b c d x w h p q = record {
  first_reaches = bounds_in_order (int_min a b) (int_max c d) x w h p.least q.greatest;
  second_reaches = bounds_in_order (int_min c d) (int_max a b) x w h q.least p.greatest;
}

-- a combination of two numbers is in the interval between them
combination_within : (k l m x w a b : ℤ) → pos 0 <ℤ k → pos 0 ≤ℤ l → pos 0 ≤ℤ m
    → k *ℤ x ≡ l *ℤ a +ℤ m *ℤ b → k *ℤ w ≡ l *ℤ pos 1 +ℤ m *ℤ pos 1 → IsInInterval x w a b
combination_within k l m x w a b hk hl hm e f = record {
  least = at_least k l m x w a b e f hk hl hm (int_min a b) (omega (arith, ints, clamps)) (omega (arith, ints, clamps));
  greatest = at_most k l m x w a b e f hk hl hm (int_max a b) (omega (arith, ints, clamps)) (omega (arith, ints, clamps));
}

-- ---- boxes

module _ (a b c d : Point) (h : BoxesMeet a b c d) where
  -- the first segment may be read backward
  pub boxes_reversed_first : BoxesMeet b a c d
  boxes_reversed_first = record {
    in_x = intervals_reversed_first a.x b.x c.x d.x h.in_x;
    in_y = intervals_reversed_first a.y b.y c.y d.y h.in_y;
  }

  -- the two may change places
  pub boxes_swapped : BoxesMeet c d a b
  boxes_swapped = record { in_x = intervals_swapped a.x b.x c.x d.x h.in_x; in_y = intervals_swapped a.y b.y c.y d.y h.in_y }

-- the second segment may be read backward too
pub boxes_reversed_second : (a b c d : Point) → BoxesMeet a b c d → BoxesMeet a b d c
boxes_reversed_second a b c d h = boxes_swapped d c a b (boxes_reversed_first c d a b (boxes_swapped a b c d h))

module _ (p : Triple) (a b : Point) (c : IsCombination p (whole a) (whole b)) where
  -- the box of a segment holds its points from left to right
  within_x : IsInInterval p.X p.W a.x b.x
  within_x = combination_within c.k c.l c.m p.X p.W a.x b.x c.k_positive c.l_nonnegative c.m_nonnegative c.in_X c.in_W

  -- and so it does upward
  pub within_y : IsInInterval p.Y p.W a.y b.y
  within_y = combination_within c.k c.l c.m p.Y p.W a.y b.y c.k_positive c.l_nonnegative c.m_nonnegative c.in_Y c.in_W

-- segments that share a point have boxes that meet
pub boxes_meet_at : (p : Triple) (a b c d : Point) → IsPoint p
    → IsCombination p (whole a) (whole b) → IsCombination p (whole c) (whole d) → BoxesMeet a b c d
boxes_meet_at p a b c d h first second = record {
  in_x = intervals_meet_at a.x b.x c.x d.x p.X p.W h (within_x p a b first) (within_x p c d second);
  in_y = intervals_meet_at a.y b.y c.y d.y p.Y p.W h (within_y p a b first) (within_y p c d second);
}
