-- Two segments on one line meet where their boxes do: an end of one is on the other.
use Rattle.std.proofs.Common.{◌≡◌, inl, inr, sym, ◌∙◌}
use Rattle.plane.proofs.Order.{before_asym, before_or_not, x_at_most, y_at_most}
use Rattle.plane.proofs.Points.{whole_is_point}
use Rattle.plane.proofs.Segments.Boxes.{boxes_reversed_first, boxes_reversed_second, boxes_swapped, intervals_not_before}
use Rattle.plane.proofs.Segments.OnSegment.{on_segment_from, on_vertical}
use Rattle.plane.proofs.Segments.Segments.{meet_reversed_first, meet_reversed_second, on_first_end}
use Rattle.plane.proofs.Turns.{straight_shift, straight_shift_back, straight_swap_first, straight_swap_last}
use Rattle.plane.specs.Box.{BoxesMeet}
use Rattle.plane.specs.Prelude.{IsBefore, IsStraight, Meet, Point, Triple, whole}

-- ---- four points on one line

-- each three of four points are on a line
pub record OnOneLine (a b c d : Triple) : Type 0 where
  pub abc : IsStraight a b c
  pub abd : IsStraight a b d
  pub acd : IsStraight a c d
  pub bcd : IsStraight b c d

module _ (a b c d : Triple) (h : OnOneLine a b c d) where
  -- so they are where the first two change places
  line_reversed_first : OnOneLine b a c d
  line_reversed_first = record { abc = straight_swap_first a b c h.abc; abd = straight_swap_first a b d h.abd; acd = h.bcd; bcd = h.acd }

  -- where the last two do
  line_reversed_second : OnOneLine a b d c
  line_reversed_second = record { abc = h.abd; abd = h.abc; acd = straight_swap_last a c d h.acd; bcd = straight_swap_last b c d h.bcd }

  -- and where the first two go to the end
  line_swapped : OnOneLine c d a b
  line_swapped = record {
    abc = straight_shift a c d h.acd;
    abd = straight_shift b c d h.bcd;
    acd = straight_shift_back a b c h.abc;
    bcd = straight_shift_back a b d h.abd;
  }

-- ---- whole segments that are read forward

module _ (a b c d : Point) (line : OnOneLine (whole a) (whole b) (whole c) (whole d)) (boxes : BoxesMeet a b c d)
    (ab : ¬ (IsBefore b a)) (cd : ¬ (IsBefore d c)) where
  -- the first does not end before the second begins
  not_apart : ¬ (IsBefore b c)
  not_apart h = elim h [
    | inl right ↦ intervals_not_before a.x b.x c.x d.x boxes.in_x (x_at_most a b ab) (x_at_most c d cd) right
    | inr up ↦
        let same_a : a.x ≡ b.x = on_vertical b c a up.0 up.1 (straight_shift (whole a) (whole b) (whole c) line.abc) in
        let same_d : c.x ≡ d.x = sym up.0 ∙ sym (on_vertical b c d up.0 up.1 line.bcd) in
        intervals_not_before a.y b.y c.y d.y boxes.in_y (y_at_most a b ab same_a) (y_at_most c d cd same_d) up.1
  ]

module _ (a b c d : Point) (line : OnOneLine (whole a) (whole b) (whole c) (whole d)) (boxes : BoxesMeet a b c d) where
  -- they meet at the later of their first ends
  forward_meet : ¬ (IsBefore b a) → ¬ (IsBefore d c) → Meet (whole a) (whole b) (whole c) (whole d)
  forward_meet ab cd =
      let other = line_swapped (whole a) (whole b) (whole c) (whole d) line in
      let bc = not_apart a b c d line boxes ab cd in
      let da = not_apart c d a b other (boxes_swapped a b c d boxes) cd ab in
      elim (before_or_not c a) [
        | inl ca ↦ record {
          point = whole a;
          rational = whole_is_point a;
          on_first = on_first_end (whole a) (whole b);
          on_second = on_segment_from a c d other.abc (record { not_after = λ h. da h.1; not_before = λ h. before_asym c a ca h.0 });
        }
        | inr ac ↦ record {
          point = whole c;
          rational = whole_is_point c;
          on_first = on_segment_from c a b line.abc (record { not_after = λ h. bc h.1; not_before = λ h. ac h.0 });
          on_second = on_first_end (whole c) (whole d);
        }
      ]

-- ---- in any direction

module _ (a b c d : Point) (line : OnOneLine (whole a) (whole b) (whole c) (whole d)) (boxes : BoxesMeet a b c d) where
  -- they meet where the second is read forward
  second_forward : ¬ (IsBefore d c) → Meet (whole a) (whole b) (whole c) (whole d)
  second_forward cd =
      let other = line_reversed_first (whole a) (whole b) (whole c) (whole d) line in
      elim (before_or_not b a) [
        | inl ba ↦ meet_reversed_first (whole b) (whole a) (whole c) (whole d)
            (forward_meet b a c d other (boxes_reversed_first a b c d boxes) (before_asym b a ba) cd)
        | inr ab ↦ forward_meet a b c d line boxes ab cd
      ]

-- whole segments on one line meet where their boxes do
pub one_line_meet : (a b c d : Point) → OnOneLine (whole a) (whole b) (whole c) (whole d) → BoxesMeet a b c d
    → Meet (whole a) (whole b) (whole c) (whole d)
one_line_meet a b c d line boxes =
    let other = line_reversed_second (whole a) (whole b) (whole c) (whole d) line in
    elim (before_or_not d c) [
      | inl dc ↦ meet_reversed_second (whole a) (whole b) (whole d) (whole c)
          (second_forward a b d c other (boxes_reversed_second a b c d boxes) (before_asym d c dc))
      | inr cd ↦ second_forward a b c d line boxes cd
    ]
