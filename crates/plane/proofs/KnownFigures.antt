-- Figures that anyone can draw, so that a wrong definition does not check.
use Rattle.std.proofs.Common.{◌≡◌, inl, inr, ℕ, ◌≤◌, refl, ℤ, pos, negsuc, ◌*ℤ◌, lit≤, arith}
use Rattle.std.proofs.lemmas.Int.{clamps, ints}
use Rattle.plane.specs.Box.{BoxesMeet}
use Rattle.plane.specs.Prelude.{determinant, IsBefore, Meet, MeetElsewhere, On, part_of_way, Point, Triple}

abbrev at : ℤ → ℤ → Triple
at x y = record { X = x; Y = y; W = pos 1 }

-- ---- turns

-- from the origin to the right and then up is to the left, and twice the area of the triangle is 2
left_turn : determinant (at (pos 0) (pos 0)) (at (pos 2) (pos 0)) (at (pos 2) (pos 1)) ≡ pos 2
left_turn = refl

-- down is to the right
right_turn : determinant (at (pos 0) (pos 0)) (at (pos 2) (pos 0)) (at (pos 2) (negsuc 0)) ≡ negsuc 1
right_turn = refl

-- out and back is straight
turn_back : determinant (at (pos 0) (pos 0)) (at (pos 2) (pos 2)) (at (pos 1) (pos 1)) ≡ pos 0
turn_back = refl

-- the turn at a third of the way
turn_at_fraction : determinant (at (pos 0) (pos 0)) (at (pos 3) (pos 0)) (record { X = pos 3; Y = pos 1; W = pos 3 }) ≡ pos 3
turn_at_fraction = refl

-- ---- points on segments

-- p is i of j parts of the way
on_at : {p a b : Triple} (i j : ℕ) → 1 ≤ j → i ≤ j → p.X *ℤ (part_of_way i j a b).W ≡ (part_of_way i j a b).X *ℤ p.W
    → p.Y *ℤ (part_of_way i j a b).W ≡ (part_of_way i j a b).Y *ℤ p.W → On p a b
on_at i j positive within x y = record { i = i; j = j; positive = positive; within = within; same = record { same_x = x; same_y = y } }

-- (1, 2/3) is a third of the way from (0, 0) to (3, 2)
third_of_way : On (record { X = pos 3; Y = pos 2; W = pos 3 }) (at (pos 0) (pos 0)) (at (pos 3) (pos 2))
third_of_way = on_at 1 3 (lit≤ tt) (lit≤ tt) refl refl

-- a segment of one point holds it
point_on_itself : On (at (pos 5) (pos 7)) (at (pos 5) (pos 7)) (at (pos 5) (pos 7))
point_on_itself = on_at 0 1 (lit≤ tt) (lit≤ tt) refl refl

-- the diagonals of the unit square cross at (1/2, 1/2)
diagonals_cross : Meet (at (pos 0) (pos 0)) (at (pos 1) (pos 1)) (at (pos 0) (pos 1)) (at (pos 1) (pos 0))
diagonals_cross = record {
  point = record { X = pos 1; Y = pos 1; W = pos 2 };
  rational = omega (arith, ints);
  on_first = on_at 1 2 (lit≤ tt) (lit≤ tt) refl refl;
  on_second = on_at 1 2 (lit≤ tt) (lit≤ tt) refl refl;
}

-- a segment upward from (1, 0) touches the middle of the one from (0, 0) to (2, 0)
end_touches : Meet (at (pos 0) (pos 0)) (at (pos 2) (pos 0)) (at (pos 1) (pos 0)) (at (pos 1) (pos 3))
end_touches = record {
  point = at (pos 1) (pos 0);
  rational = omega (arith, ints);
  on_first = on_at 1 2 (lit≤ tt) (lit≤ tt) refl refl;
  on_second = on_at 0 1 (lit≤ tt) (lit≤ tt) refl refl;
}

-- out from (0, 0) to (2, 0) and back to (1, 0) shares (1, 0), which is not the turning point
fold_shares_more : MeetElsewhere (at (pos 0) (pos 0)) (at (pos 2) (pos 0)) (at (pos 1) (pos 0))
fold_shares_more = record {
  point = at (pos 1) (pos 0);
  rational = omega (arith, ints);
  on_first = on_at 1 2 (lit≤ tt) (lit≤ tt) refl refl;
  on_second = on_at 1 1 (lit≤ tt) (lit≤ tt) refl refl;
  elsewhere = λ same. omega (arith, ints, same.same_x);
}

-- ---- the order of points

abbrev point : ℤ → ℤ → Point
point x y = record { x = x; y = y }

-- the point farther to the left comes first, however high it is
left_first : IsBefore (point (pos 0) (pos 5)) (point (pos 1) (pos 0))
left_first = inl (omega (arith, ints))

-- on one vertical the lower comes first
lower_first : IsBefore (point (pos 1) (pos 0)) (point (pos 1) (pos 2))
lower_first = inr (refl, omega (arith, ints))

-- ---- boxes

-- the box of a segment from (2, 0) to (0, 2) has a corner in common with the box from (2, 2) to (3, 4)
boxes_touch : BoxesMeet (point (pos 2) (pos 0)) (point (pos 0) (pos 2)) (point (pos 2) (pos 2)) (point (pos 3) (pos 4))
boxes_touch = record {
  in_x = record { first_reaches = omega (arith, ints, clamps); second_reaches = omega (arith, ints, clamps) };
  in_y = record { first_reaches = omega (arith, ints, clamps); second_reaches = omega (arith, ints, clamps) };
}

-- and nothing with the box one step farther to the right, which is as high
boxes_apart : ¬ (BoxesMeet (point (pos 2) (pos 0)) (point (pos 0) (pos 2)) (point (pos 3) (pos 2)) (point (pos 4) (pos 4)))
boxes_apart meet = omega (arith, ints, clamps, meet.in_x.second_reaches)
