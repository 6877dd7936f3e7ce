-- Of three points on one line one is on the segment between the others.
use Rattle.std.proofs.Common.{◌⊎◌, inl, inr}
use Rattle.plane.proofs.Order.{NotAfter, not_after_of_precedes, not_after_or_precedes}
use Rattle.plane.proofs.Segments.{on_from_order, on_reversed}
use Rattle.plane.proofs.Turns.{straight_shift, straight_shift_back, straight_swap_first, straight_swap_last}
use Rattle.plane.specs.Point.{IsPoint, Triple}
use Rattle.plane.specs.Segment.{On}
use Rattle.plane.specs.Turn.{IsStraight}

-- one of two points is not after the other
one_order : (a b : Triple) → NotAfter a b ⊎ NotAfter b a
one_order a b = elim (not_after_or_precedes a b) [ inl h ↦ inl (not_after_of_precedes a b h) | inr h ↦ inr h ]

module _ (a b c : Triple) (at_a : IsPoint a) (at_b : IsPoint b) (at_c : IsPoint c) (straight : IsStraight a b c) where
  -- the one in the middle, by their order
  middle_of : NotAfter a b ⊎ NotAfter b a → NotAfter b c ⊎ NotAfter c b → NotAfter a c ⊎ NotAfter c a
      → On a b c ⊎ On b a c ⊎ On c a b
  middle_of (inl ab) (inl bc) ac = inr (inl (on_from_order b a c (straight_swap_last a b c straight) at_b at_a at_c ab bc))
  middle_of (inl ab) (inr cb) (inl ac) = inr (inr (on_from_order c a b straight at_c at_a at_b ac cb))
  middle_of (inl ab) (inr cb) (inr ca) =
      inl (on_reversed a c b (on_from_order a c b (straight_swap_first b c a (straight_shift a b c straight)) at_a at_c at_b ca ab))
  middle_of (inr ba) (inl bc) (inl ac) = inl (on_from_order a b c (straight_shift a b c straight) at_a at_b at_c ba ac)
  middle_of (inr ba) (inl bc) (inr ca) =
      inr (inr (on_reversed c b a (on_from_order c b a (straight_swap_first a b c straight) at_c at_b at_a bc ca)))
  middle_of (inr ba) (inr cb) ac =
      inr (inl (on_reversed b c a (on_from_order b c a (straight_shift_back a b c straight) at_b at_c at_a cb ba)))

  -- there is one
  pub one_in_middle : On a b c ⊎ On b a c ⊎ On c a b
  one_in_middle = middle_of (one_order a b) (one_order b c) (one_order a c)
