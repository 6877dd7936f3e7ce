-- An edge that rises past the height of a point: the turn where both ends are to one side, and the points on it.
use Rattle.std.proofs.Common.{◌≡◌, [], ◌∷◌, refl, sym, ap, ◌∙◌, ℤ, pos, ◌+ℤ◌, ◌-ℤ◌, ◌*ℤ◌, ◌<ℤ◌, ◌≤ℤ◌, ◌↔◌, IsTrue, false, true, arith}
use Rattle.std.proofs.lemmas.Int.{ints}
use Rattle.std.specs.Int.Signed.{le_z, lt_z}
use Rattle.std.specs.Prelude.{◌&&◌}
use Rattle.integer_algebra.proofs.Laws.{mul_comm, zero-mul}
use Rattle.integer_algebra.proofs.Polynomial.{var, lit, ◌⊕◌, ◌⊖◌, ◌⊗◌, same_value}
use Rattle.integer_algebra.proofs.SignSteps.{difference_positive, weak, without_less}
use Rattle.integer_algebra.proofs.Signs.{cancel_equal, factor_negative, factor_positive, le_unless, mul_nonpositive, mul_nonpositives, mul_positive}
use Rattle.plane.proofs.Points.{whole_is_point}
use Rattle.plane.proofs.Segments.{on_is_straight, on_reversed}
use Rattle.plane.proofs.Turns.{on_of_combination, written_determinant}
use Rattle.plane.specs.Point.{IsPoint, Point, Triple, whole}
use Rattle.plane.specs.Turn.{determinant}
use Rattle.rings.specs.Edge.{Edge, IsOn, edge}
use Rattle.exact_plane.proofs.Directions.{left_of_positive, right_of_negative, straight_of_zero, zero_of_straight}
use Rattle.exact_plane.specs.Direction.{turn_of}
use Rattle.exact_plane.specs.declared.direction.Direction.{Direction}
use Rattle.exact_plane.specs.declared.direction.Direction.TheVariants.{Left, Right, Straight}
use Rattle.inside_test.proofs.CrossedEdges.{crossed_backward, crossed_from_left, crossed_from_right}
use Rattle.inside_test.specs.Meeting.{IsVertexBeside, IsMeeting, rises}
use Rattle.inside_test.specs.declared.crossing.Meeting.{Meeting}
use Rattle.inside_test.specs.declared.crossing.Meeting.TheVariants.{Crossed, Missed, On}
use Rattle.inside_test.specs.declared.crossing.Vertex.{Vertex}

-- ---- signs of x t - y s, where y is not positive and t is

module _ (x y s t : ℤ) (low : y ≤ℤ pos 0) (high : pos 0 <ℤ t) where
  -- positive, where x and s are,
  positive_beside : pos 0 <ℤ x → pos 0 <ℤ s → pos 0 <ℤ (x *ℤ t -ℤ s *ℤ y)
  positive_beside first last =
      let left = mul_positive x t first high in
      let right : (s *ℤ y) ≤ℤ pos 0 = mul_nonpositive s y (omega (arith, ints)) low in
      more _ _ left right
    where
      more : (a b : ℤ) → pos 0 <ℤ a → b ≤ℤ pos 0 → pos 0 <ℤ (a -ℤ b)
      more a b h k = omega (arith, ints)

  -- negative, where they are
  negative_beside : x <ℤ pos 0 → s <ℤ pos 0 → (x *ℤ t -ℤ s *ℤ y) <ℤ pos 0
  negative_beside first last =
      let left : (x *ℤ t) <ℤ pos 0 = grind (arith, ints) in
      let right : pos 0 ≤ℤ (s *ℤ y) = mul_nonpositives s y (omega (arith, ints)) low in
      less _ _ left right
    where
      less : (a b : ℤ) → a <ℤ pos 0 → pos 0 ≤ℤ b → (a -ℤ b) <ℤ pos 0
      less a b h k = omega (arith, ints)

-- the difference of equal numbers
pub no_offset : {x y : ℤ} → x ≡ y → x -ℤ y ≡ pos 0
no_offset e = omega (arith, ints)

-- a product with 0
pub no_factor : (x y : ℤ) → x ≡ pos 0 → x *ℤ y ≡ pos 0
no_factor x y e = ap (λ z. z *ℤ y) e ∙ zero-mul y

-- ---- the turn

-- the determinant of two whole points and a rational one, by the ways from that to them
pub beside_is : (a b : Point) (p : Triple) → p.W *ℤ determinant (whole a) (whole b) p
    ≡ (a.x *ℤ p.W -ℤ p.X) *ℤ (b.y *ℤ p.W -ℤ p.Y) -ℤ (b.x *ℤ p.W -ℤ p.X) *ℤ (a.y *ℤ p.W -ℤ p.Y)
beside_is a b p =
    let one = lit (pos 1) in
    same_value (var 6 ⊗ written_determinant (var 0) (var 1) one (var 2) (var 3) one (var 4) (var 5) (var 6))
    ((var 0 ⊗ var 6 ⊖ var 4) ⊗ (var 3 ⊗ var 6 ⊖ var 5) ⊖ (var 2 ⊗ var 6 ⊖ var 4) ⊗ (var 1 ⊗ var 6 ⊖ var 5))
    (a.x ∷ a.y ∷ b.x ∷ b.y ∷ p.X ∷ p.Y ∷ p.W ∷ []) refl

-- a number with a positive factor is 0 where its product is a difference of numbers that are 0
pub no_difference : (k d m n : ℤ) → pos 0 <ℤ k → k *ℤ d ≡ m -ℤ n → m ≡ pos 0 → n ≡ pos 0 → d ≡ pos 0
no_difference k d m n positive e m_zero n_zero = cancel_equal d (pos 0) k positive (omega (arith, ints))

-- what the tests of a rise tell
rises_low : (low high y : ℤ) → IsTrue (le_z low y && lt_z y high) → (low -ℤ y) ≤ℤ pos 0
rises_low low high y h = grind (arith, ints)

rises_high : (low high y : ℤ) → IsTrue (le_z low y && lt_z y high) → pos 0 <ℤ (high -ℤ y)
rises_high low high y h = grind (arith, ints)

-- an edge that rises past a height does not fall past it
pub not_falling : (low high y : ℤ) → IsTrue (le_z low y && lt_z y high) → (le_z high y && lt_z y low) ≡ false
not_falling low high y h = grind (arith, ints)

difference_negative : (a b : ℤ) → a <ℤ b → (a -ℤ b) <ℤ pos 0
difference_negative a b h = omega (arith, ints)

module _ (low high : Point) (p : Triple) (at_p : IsPoint p) (rise : IsTrue (rises low high p)) where
  -- to the left, where both ends are right of the point,
  pub left_of_rise : p.X <ℤ (low.x *ℤ p.W) → p.X <ℤ (high.x *ℤ p.W) → Left ≡ turn_of (whole low) (whole high) p
  left_of_rise first last =
      let sign =
      positive_beside (low.x *ℤ p.W -ℤ p.X) (low.y *ℤ p.W -ℤ p.Y) (high.x *ℤ p.W -ℤ p.X) (high.y *ℤ p.W -ℤ p.Y)
      (rises_low (low.y *ℤ p.W) (high.y *ℤ p.W) p.Y rise) (rises_high (low.y *ℤ p.W) (high.y *ℤ p.W) p.Y rise) (difference_positive first) (difference_positive last) in
      sym (left_of_positive _ (factor_positive p.W (determinant (whole low) (whole high) p) at_p (rw (beside_is low high p) sign)))

  -- to the right, where both are left of it
  pub right_of_rise : (low.x *ℤ p.W) <ℤ p.X → (high.x *ℤ p.W) <ℤ p.X → Right ≡ turn_of (whole low) (whole high) p
  right_of_rise first last =
      let sign =
      negative_beside (low.x *ℤ p.W -ℤ p.X) (low.y *ℤ p.W -ℤ p.Y) (high.x *ℤ p.W -ℤ p.X) (high.y *ℤ p.W -ℤ p.Y)
      (rises_low (low.y *ℤ p.W) (high.y *ℤ p.W) p.Y rise) (rises_high (low.y *ℤ p.W) (high.y *ℤ p.W) p.Y rise) (difference_negative _ _ first) (difference_negative _ _ last) in
      sym (right_of_negative _ (factor_negative p.W (determinant (whole low) (whole high) p) at_p (rw (beside_is low high p) sign)))

  -- ---- the points on the edge

  -- the point as a combination of the ends: across,
  across_is : (high.y -ℤ low.y) *ℤ p.X ≡ (high.y *ℤ p.W -ℤ p.Y) *ℤ low.x +ℤ (p.Y -ℤ low.y *ℤ p.W) *ℤ high.x -ℤ determinant (whole low) (whole high) p
  across_is =
      let one = lit (pos 1) in
      same_value ((var 3 ⊖ var 1) ⊗ var 4)
      ((var 3 ⊗ var 6 ⊖ var 5) ⊗ var 0 ⊕ (var 5 ⊖ var 1 ⊗ var 6) ⊗ var 2 ⊖ written_determinant (var 0) (var 1) one (var 2) (var 3) one (var 4) (var 5) (var 6))
      (low.x ∷ low.y ∷ high.x ∷ high.y ∷ p.X ∷ p.Y ∷ p.W ∷ []) refl

  -- upward
  upward_is : (high.y -ℤ low.y) *ℤ p.Y ≡ (high.y *ℤ p.W -ℤ p.Y) *ℤ low.y +ℤ (p.Y -ℤ low.y *ℤ p.W) *ℤ high.y
  upward_is =
      same_value ((var 1 ⊖ var 0) ⊗ var 2) ((var 1 ⊗ var 3 ⊖ var 2) ⊗ var 0 ⊕ (var 2 ⊖ var 0 ⊗ var 3) ⊗ var 1)
      (low.y ∷ high.y ∷ p.Y ∷ p.W ∷ []) refl

  -- and the weight
  weight_is : (high.y -ℤ low.y) *ℤ p.W ≡ (high.y *ℤ p.W -ℤ p.Y) *ℤ pos 1 +ℤ (p.Y -ℤ low.y *ℤ p.W) *ℤ pos 1
  weight_is =
      same_value ((var 1 ⊖ var 0) ⊗ var 3) ((var 1 ⊗ var 3 ⊖ var 2) ⊗ lit (pos 1) ⊕ (var 2 ⊖ var 0 ⊗ var 3) ⊗ lit (pos 1))
      (low.y ∷ high.y ∷ p.Y ∷ p.W ∷ []) refl

  -- a point that is in line with the edge is on it
  pub on_rise : turn_of (whole low) (whole high) p ≡ Straight → IsOn (edge low high) p
  on_rise straight =
      let begins = rises_low (low.y *ℤ p.W) (high.y *ℤ p.W) p.Y rise in
      let ends = rises_high (low.y *ℤ p.W) (high.y *ℤ p.W) p.Y rise in
      on_of_combination p (whole low) (whole high) at_p (whole_is_point low) (whole_is_point high) (record {
        k = high.y -ℤ low.y;
        l = high.y *ℤ p.W -ℤ p.Y;
        m = p.Y -ℤ low.y *ℤ p.W;
        k_positive = factor_positive p.W (high.y -ℤ low.y) at_p (omega (arith, ints, begins, ends, weight_is, mul_comm p.W (high.y -ℤ low.y)));
        l_nonnegative = weak ends;
        m_nonnegative = omega (arith, ints, begins);
        in_X = without_less across_is (zero_of_straight _ straight);
        in_Y = upward_is;
        in_W = weight_is;
      })

  -- what a turn tells of the edge
  pub meeting_by_turn : (m : Meeting) (turn : Direction) → turn ≡ turn_of (whole low) (whole high) p → (m ≡ On) ↔ (turn ≡ Straight)
      → (m ≡ Crossed → turn ≡ Left) → (m ≡ Missed → turn ≡ Right) → IsMeeting m (edge low high) p
  meeting_by_turn m turn is on crossed missed =
      let e : Edge = edge low high in
      record {
        on = (λ h. on_rise (sym is ∙ on.0 h), λ k. on.1 (is ∙ straight_of_zero _ (on_is_straight p (whole low) (whole high) at_p (whole_is_point low) (whole_is_point high) k)));
        crossed = λ h. crossed_from_left e p (sym is ∙ crossed h) ∙ rise;
        missed = λ h. crossed_from_right e p (sym is ∙ missed h) ∙ not_falling (low.y *ℤ p.W) (high.y *ℤ p.W) p.Y rise;
      }

-- so it does of the edge read backward
pub meeting_backward : (m : Meeting) (a b : Point) (p : Triple) → IsMeeting m (edge b a) p → IsMeeting m (edge a b) p
meeting_backward m a b p h = record {
  on = (λ e. on_reversed p (whole b) (whole a) (h.on.0 e), λ on. h.on.1 (on_reversed p (whole a) (whole b) on));
  crossed = λ e. crossed_backward b a p ∙ h.crossed e;
  missed = λ e. crossed_backward b a p ∙ h.missed e;
}

-- ---- whether an edge rises, by what its ends say

-- the test of a rise, where its first part holds and the second,
test_passes : (low high y : ℤ) → low ≤ℤ y → y <ℤ high → (le_z low y && lt_z y high) ≡ true
test_passes low high y h k = grind (arith, ints)

-- and where one does not
pub test_fails_low : (low high y : ℤ) → y <ℤ low → (le_z low y && lt_z y high) ≡ false
test_fails_low low high y h = grind (arith, ints)

pub test_fails_high : (low high y : ℤ) → high ≤ℤ y → (le_z low y && lt_z y high) ≡ false
test_fails_high low high y h = grind (arith, ints)

module _ (v : Vertex) (p : Triple) (beside : IsVertexBeside v p) where
  -- a vertex that says that it is above the point is,
  pub above_of_true : v.is_above ≡ true → p.Y <ℤ (v.at.y *ℤ p.W)
  above_of_true e = beside.0 e

  -- and one that does not is not
  pub not_above_of_false : v.is_above ≡ false → (v.at.y *ℤ p.W) ≤ℤ p.Y
  not_above_of_false e = le_unless (v.at.y *ℤ p.W) p.Y (λ k. cc (beside.1 k, e))

module _ (low high : Vertex) (p : Triple) (first : IsVertexBeside low p) (last : IsVertexBeside high p) where
  pub rise_of : low.is_above ≡ false → high.is_above ≡ true → rises low.at high.at p ≡ true
  rise_of e f = test_passes _ _ _ (not_above_of_false low p first e) (above_of_true high p last f)

  pub no_rise_from_above : low.is_above ≡ true → rises low.at high.at p ≡ false
  no_rise_from_above e = test_fails_low _ _ _ (above_of_true low p first e)

  pub no_rise_to_below : high.is_above ≡ false → rises low.at high.at p ≡ false
  no_rise_to_below e = test_fails_high _ _ _ (not_above_of_false high p last e)
