-- Two segments of which neither is beside the line of the other cross, or they are on one line.
-- Two whole segments meet exactly if their boxes do and neither is beside the line of the other.
use Rattle.std.proofs.Common.{◌≡◌, ◌⊎◌, inl, inr, [], ◌∷◌, refl, ap, ℤ, pos, ◌+ℤ◌, ◌-ℤ◌, ◌*ℤ◌, neg_ℤ, ◌<ℤ◌, ◌≤ℤ◌, arith, ◌∙◌}
use Rattle.std.proofs.lemmas.Int.{ints}
use Rattle.integer_algebra.proofs.Laws.{neg-mul, mul-neg, mul-zero}
use Rattle.integer_algebra.proofs.OneSign.{OneSign, both_fall, both_level, both_rise, one_sign_swapped, same_change, sign_change}
use Rattle.integer_algebra.proofs.Polynomial.{var, ◌⊖◌, ◌⊗◌, same_value}
use Rattle.integer_algebra.proofs.SignSteps.{one_positive, opposite_not_negative, turned_not_positive, turned_not_negative}
use Rattle.integer_algebra.proofs.Weights.{weighted_positive}
use Rattle.plane.proofs.Points.{whole_is_point}
use Rattle.plane.proofs.Segments.{meet_reversed_second, OnOneLine, boxes_meet_at, combination_is_straight, one_line_meet}
use Rattle.plane.proofs.Turns.{determinant_shift, determinant_swap_last, four_triples_in_W, four_triples_in_X, four_triples_in_Y, parts}
use Rattle.plane.proofs.Turns.{IsCombination, on_of_combination, determinant as det, combination_of_ends, determinant_along}
use Rattle.plane.proofs.Turns.{weights_positive}
use Rattle.plane.specs.Beside.{IsBeside}
use Rattle.plane.specs.Box.{BoxesMeet}
use Rattle.plane.specs.Prelude.{determinant, IsPoint, Meet, Point, Triple, whole}

-- ---- the crossing

-- one part of it is made of the same parts x and y of the first segment's ends
of_first : (u v x y : ℤ) → pos 1 *ℤ (v *ℤ x -ℤ u *ℤ y) ≡ v *ℤ x +ℤ neg_ℤ u *ℤ y
of_first u v x y = omega (arith, ints, neg-mul u y)

-- and of the parts z and w of the second's
of_second : (s t u v x y z w : ℤ) → v *ℤ x -ℤ u *ℤ y +ℤ t *ℤ z -ℤ s *ℤ w ≡ pos 0
    → pos 1 *ℤ (v *ℤ x -ℤ u *ℤ y) ≡ neg_ℤ t *ℤ z +ℤ s *ℤ w
of_second s t u v x y z w e = omega (arith, ints, neg-mul t z)

module _ (a b c d : Triple) where
  -- the point with the weights of the first segment's ends
  crossing : Triple
  crossing =
      let u = determinant a c d in
      let v = determinant b c d in
      record { X = v *ℤ a.X -ℤ u *ℤ b.X; Y = v *ℤ a.Y -ℤ u *ℤ b.Y; W = v *ℤ a.W -ℤ u *ℤ b.W }

  -- it is a combination of them
  crossing_on_first : determinant a c d ≤ℤ pos 0 → pos 0 ≤ℤ determinant b c d → IsCombination crossing a b
  unfolding crossing
  crossing_on_first hu hv =
      let u = determinant a c d in
      let v = determinant b c d in
      record {
        k = pos 1;
        l = v;
        m = neg_ℤ u;
        k_positive = one_positive;
        l_nonnegative = hv;
        m_nonnegative = opposite_not_negative hu;
        in_X = of_first u v a.X b.X;
        in_Y = of_first u v a.Y b.Y;
        in_W = of_first u v a.W b.W;
      }

  -- and of the second's
  crossing_on_second : determinant a b d ≤ℤ pos 0 → pos 0 ≤ℤ determinant a b c → IsCombination crossing c d
  unfolding crossing
  crossing_on_second ht hs =
      let s = determinant a b c in
      let t = determinant a b d in
      let u = determinant a c d in
      let v = determinant b c d in
      record {
        k = pos 1;
        l = neg_ℤ t;
        m = s;
        k_positive = one_positive;
        l_nonnegative = opposite_not_negative ht;
        m_nonnegative = hs;
        in_X = of_second s t u v a.X b.X c.X d.X (four_triples_in_X a b c d);
        in_Y = of_second s t u v a.Y b.Y c.Y d.Y (four_triples_in_Y a b c d);
        in_W = of_second s t u v a.W b.W c.W d.W (four_triples_in_W a b c d);
      }

-- where both changes of side rise, the crossing is on both segments
rising_meet : (a b c d : Triple) → IsPoint a → IsPoint b → IsPoint c → IsPoint d
    → determinant a c d ≤ℤ pos 0 → pos 0 ≤ℤ determinant b c d → determinant a b d ≤ℤ pos 0 → pos 0 ≤ℤ determinant a b c
    → pos 0 <ℤ (determinant b c d *ℤ a.W -ℤ determinant a c d *ℤ b.W) → Meet a b c d
unfolding crossing
rising_meet a b c d at_a at_b at_c at_d hu hv ht hs h = record {
  point = crossing a b c d;
  rational = h;
  on_first = on_of_combination (crossing a b c d) a b h at_a at_b (crossing_on_first a b c d hu hv);
  on_second = on_of_combination (crossing a b c d) c d h at_c at_d (crossing_on_second a b c d ht hs);
}

-- with the opposite numbers a fall is a rise
turned_up : (u v A B U V : ℤ) → U ≡ neg_ℤ u → V ≡ neg_ℤ v → (v *ℤ A -ℤ u *ℤ B) <ℤ pos 0 → pos 0 <ℤ (V *ℤ A -ℤ U *ℤ B)
turned_up u v A B U V e f h = omega (arith, ints, ap (λ z. z *ℤ B) e, ap (λ z. z *ℤ A) f, neg-mul u B, neg-mul v A)

module _ (a b c d : Triple) (at_a : IsPoint a) (at_b : IsPoint b) (at_c : IsPoint c) (at_d : IsPoint d) where
  -- where both fall, it is on both too
  falling_meet : pos 0 ≤ℤ determinant a c d → determinant b c d ≤ℤ pos 0 → pos 0 ≤ℤ determinant a b d → determinant a b c ≤ℤ pos 0
      → (determinant b c d *ℤ a.W -ℤ determinant a c d *ℤ b.W) <ℤ pos 0 → Meet a b c d
  falling_meet hu hv ht hs h =
      let u = determinant_swap_last a c d in
      let v = determinant_swap_last b c d in
      meet_reversed_second a b d c
      (rising_meet a b d c at_a at_b at_d at_c (turned_not_positive u hu) (turned_not_negative v hv) hs ht
      (turned_up _ _ a.W b.W _ _ u v h))

  -- both changes are of one size
  same_size : determinant b c d *ℤ a.W -ℤ determinant a c d *ℤ b.W ≡ determinant a b c *ℤ d.W -ℤ determinant a b d *ℤ c.W
  same_size =
      same_value (det 1 2 3 ⊗ var 2 ⊖ det 0 2 3 ⊗ var 5) (det 0 1 2 ⊗ var 11 ⊖ det 0 1 3 ⊗ var 8)
      (parts (a ∷ b ∷ c ∷ d ∷ []) []) refl

  -- where neither segment is beside the line of the other, they meet, or they are on one line
  pub crossing_or_line : ¬ (OneSign (determinant a b c) (determinant a b d)) → ¬ (OneSign (determinant c d a) (determinant c d b))
      → Meet a b c d ⊎ OnOneLine a b c d
  crossing_or_line n m =
      let u = determinant a c d in
      let v = determinant b c d in
      let t = determinant a b d in
      let s = determinant a b c in
      let not_u_v : ¬ (OneSign u v) = rw (← determinant_shift a c d, ← determinant_shift b c d) m in
      let first = sign_change u v a.W b.W at_a at_b not_u_v in
      let second = sign_change t s d.W c.W at_d at_c (one_sign_swapped s t n) in
      elim (same_change u v t s _ _ same_size first second) [
        | both_rise hu hv ht hs h ↦ inl (rising_meet a b c d at_a at_b at_c at_d hu hv ht hs h)
        | both_fall hu hv ht hs h ↦ inl (falling_meet hu hv ht hs h)
        | both_level hu hv ht hs ↦ inr (record { abc = hs; abd = ht; acd = hu; bcd = hv })
      ]

-- where the boxes of two segments meet, and neither is beside the line of the other, the segments meet
pub segments_meet_from : (a b c d : Point) → BoxesMeet a b c d → ¬ (IsBeside a b c d) → ¬ (IsBeside c d a b)
    → Meet (whole a) (whole b) (whole c) (whole d)
segments_meet_from a b c d boxes n m =
    let cross = crossing_or_line (whole a) (whole b) (whole c) (whole d) in
    elim (cross (whole_is_point a) (whole_is_point b) (whole_is_point c) (whole_is_point d) n m) [
      | inl meet ↦ meet
      | inr line ↦ one_line_meet a b c d line boxes
    ]

-- ---- what a common point excludes

-- numbers of one sign have no weighted sum 0
not_one_sign : (k l m z f g : ℤ) → pos 0 ≤ℤ l → pos 0 ≤ℤ m → pos 0 <ℤ (l +ℤ m) → z ≡ pos 0 → k *ℤ z ≡ l *ℤ f +ℤ m *ℤ g
    → ¬ (OneSign f g)
not_one_sign k l m z f g hl hm some ez e (inl h) =
    let zero : k *ℤ z ≡ pos 0 = ap (λ x. k *ℤ x) ez ∙ mul-zero k in
    omega (arith, ints, weighted_positive l m hl hm some f g h.0 h.1)
not_one_sign k l m z f g hl hm some ez e (inr h) =
    let zero : k *ℤ z ≡ pos 0 = ap (λ x. k *ℤ x) ez ∙ mul-zero k in
    let positive = weighted_positive l m hl hm some (neg_ℤ f) (neg_ℤ g) (omega (arith, ints)) (omega (arith, ints)) in
    omega (arith, ints, positive, mul-neg l f, mul-neg m g)

-- a segment that has a point of a line is not beside it
not_beside : (p a b c d : Triple) → IsPoint p → IsCombination p a b → IsCombination p c d
    → ¬ (OneSign (determinant a b c) (determinant a b d))
not_beside p a b c d at_p first second =
    not_one_sign second.k second.l second.m _ _ _ second.l_nonnegative second.m_nonnegative
    (weights_positive p c d second at_p)
    (combination_is_straight p a b first) (determinant_along p c d second a b)

-- segments that meet have boxes that meet, and neither is beside the line of the other
pub segments_apart : (a b c d : Point) → Meet (whole a) (whole b) (whole c) (whole d)
    → BoxesMeet a b c d × (¬ IsBeside a b c d) × (¬ IsBeside c d a b)
segments_apart a b c d meet =
    let p = meet.point in
    let first = combination_of_ends p a b meet.rational meet.on_first in
    let second = combination_of_ends p c d meet.rational meet.on_second in (
      boxes_meet_at p a b c d meet.rational first second,
      not_beside p (whole a) (whole b) (whole c) (whole d) meet.rational first second,
      not_beside p (whole c) (whole d) (whole a) (whole b) meet.rational second first,
    )
