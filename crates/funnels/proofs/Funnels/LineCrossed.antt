-- Between two points that are not left of a line no point is left of it; and none is right of it between two that are not.
-- A way from a point left of a line to one right of it crosses the line; weights of the points of a line.
use Rattle.std.proofs.Common.{◌≡◌, sym, ap, ◌∙◌, ℤ, pos, ◌+ℤ◌, ◌-ℤ◌, ◌*ℤ◌, neg_ℤ}
use Rattle.integer_algebra.proofs.SignSteps.{at_least_unless, at_most_unless, not_both, not_both_positive, weak, weak_order}
use Rattle.plane.proofs.Meetings.{no_value, weights_apart, zero_combination, zero_point}
use Rattle.plane.proofs.Turns.{determinant_swap_first, four_triples, four_triples_in_W, linear, determinant_along, determinant_is_linear}
use Rattle.plane.proofs.Turns.{on_of_combination}
use Rattle.plane.specs.Prelude.{determinant, IsLeft, IsPoint, IsRight, IsStraight, On, Triple}
use Rattle.ring_laws.proofs.Triangles.{not_right_between, of_side}
use Rattle.meshes.proofs.Cones.{not_left_between}

module _ (s t x a b : Triple) (at_x : IsPoint x) (at_a : IsPoint a) (at_b : IsPoint b) (on : On x a b) where
  -- where the ends of a segment are not left of a line, no point of it is
  pub not_left_along : ¬ IsLeft s t a → ¬ IsLeft s t b → ¬ IsLeft s t x
  not_left_along ha hb left =
      not_both_positive left (not_left_between s t x a b at_x at_a at_b (at_most_unless ha) (at_most_unless hb) on)

  -- and where they are not right of it, none is
  pub not_right_along : ¬ IsRight s t a → ¬ IsRight s t b → ¬ IsRight s t x
  not_right_along ha hb right = not_both right (not_right_between s t x a b at_x at_a at_b (at_least_unless ha) (at_least_unless hb) on)

-- ---- where the way crosses the line

-- a point of the way from n to y on the line through a and b
pub record OnLine (a b n y : Triple) : Type 0 where
  pub point : Triple
  pub rational : IsPoint point
  pub on_way : On point n y
  pub on_line : IsStraight a b point

-- there is one where n is left of the line, and y right of it
pub on_line_between : (a b n y : Triple) → IsPoint n → IsPoint y → IsLeft a b n → IsRight a b y → OnLine a b n y
unfolding zero_combination
on_line_between a b n y at_n at_y left right =
    let f = determinant a b n in
    let g = determinant a b y in
    let z = zero_point f g n y in
    let at_z : IsPoint z = weights_apart f g n.W y.W left (weak_order right) at_n at_y in
    let c = zero_combination f g n y (weak left) (weak_order right) in
    record {
      point = z;
      rational = at_z;
      on_way = on_of_combination z n y at_z at_n at_y c;
      on_line = no_value _ f g (determinant_along z n y c a b);
    }

-- ---- a point of the line as a weighted sum of two others, in any order

-- one part of it: x of the point, y and z of the others, t of a point off the line
weighted : (p q r m d x y z t : ℤ) → r ≡ pos 0 → m ≡ neg_ℤ q → p *ℤ y -ℤ q *ℤ z +ℤ r *ℤ t -ℤ d *ℤ x ≡ pos 0
    → d *ℤ x ≡ p *ℤ y +ℤ m *ℤ z
weighted p q r m d x y z t none turned e = of_side p q r d x y z t none e ∙ ap (λ n. p *ℤ y +ℤ n *ℤ z) (sym turned)

module _ (a b c x : Triple) (straight : IsStraight a b x) where
  -- what a linear functional is at the point
  linear_on_line : (α β γ : ℤ) →
      determinant a b c *ℤ linear α β γ x ≡ determinant b c x *ℤ linear α β γ a +ℤ determinant c a x *ℤ linear α β γ b
  linear_on_line α β γ =
      weighted (determinant b c x) (determinant a c x) (determinant a b x) (determinant c a x) (determinant a b c)
      (linear α β γ x) (linear α β γ a) (linear α β γ b) (linear α β γ c) straight (determinant_swap_first a c x)
      (four_triples a b c x α β γ)

  -- what a determinant is there
  pub determinant_on_line : (s t : Triple) →
      determinant a b c *ℤ determinant s t x ≡ determinant b c x *ℤ determinant s t a +ℤ determinant c a x *ℤ determinant s t b
  determinant_on_line s t =
      rw (determinant_is_linear s t x, determinant_is_linear s t a, determinant_is_linear s t b) (linear_on_line _ _ _)

  -- what the weights add up to
  pub weight_on_line : determinant a b c *ℤ x.W ≡ determinant b c x *ℤ a.W +ℤ determinant c a x *ℤ b.W
  weight_on_line =
      weighted (determinant b c x) (determinant a c x) (determinant a b x) (determinant c a x) (determinant a b c)
      x.W a.W b.W c.W straight (determinant_swap_first a c x) (four_triples_in_W a b c x)
