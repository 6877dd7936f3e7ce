-- What two segments have in common: one point where they are not parallel, and otherwise what lies between ends of theirs.
use Rattle.std.proofs.Common.{◌≡◌, ◌≢◌, [], ◌∷◌, refl, sym, ap, ◌∙◌, ℤ, pos, ◌+ℤ◌, ◌-ℤ◌, ◌*ℤ◌, ◌<ℤ◌, arith}
use Rattle.std.proofs.lemmas.Int.{ints}
use Rattle.integer_algebra.proofs.Laws.{add-mul, eq_of_sub-zero, mul-zero}
use Rattle.integer_algebra.proofs.Polynomial.{Polynomial, var, lit, ◌⊖◌, ◌⊗◌, same_value}
use Rattle.integer_algebra.proofs.Signs.{factor_zero}
use Rattle.plane.proofs.Turns.{combination_of_ends, determinant_along, weights_positive, written_determinant}
use Rattle.plane.specs.Line.{cross_product}
use Rattle.plane.specs.Prelude.{determinant, IsPoint, IsSame, IsStraight, On, Point, Triple, whole}

-- ---- lines that are not parallel

-- polynomials over the coordinates of a, b, c and d, and the parts of z and m: the weight of a whole point,
one : Polynomial
one = lit (pos 1)

-- the determinant of a point with a and b,
first_line : Polynomial → Polynomial → Polynomial → Polynomial
unfolding one
first_line X Y W = written_determinant (var 0) (var 1) one (var 2) (var 3) one X Y W

-- with c and d,
second_line : Polynomial → Polynomial → Polynomial → Polynomial
unfolding one
second_line X Y W = written_determinant (var 4) (var 5) one (var 6) (var 7) one X Y W

-- the cross product of the two ways,
product : Polynomial
product = (var 2 ⊖ var 0) ⊗ (var 7 ⊖ var 5) ⊖ (var 3 ⊖ var 1) ⊗ (var 6 ⊖ var 4)

-- how far z is from the line through a and b more than m is,
apart_first : Polynomial
unfolding one first_line
apart_first = first_line (var 8) (var 9) (var 10) ⊗ var 13 ⊖ first_line (var 11) (var 12) (var 13) ⊗ var 10

-- and from the line through c and d
apart_second : Polynomial
unfolding one second_line
apart_second = second_line (var 8) (var 9) (var 10) ⊗ var 13 ⊖ second_line (var 11) (var 12) (var 13) ⊗ var 10

-- nothing is left of a weighted sum of zeros
nothing : (f g w v s t u r : ℤ) → f ≡ pos 0 → g ≡ pos 0 → s ≡ pos 0 → t ≡ pos 0 → u *ℤ (f *ℤ w -ℤ g *ℤ v) -ℤ r *ℤ (s *ℤ w -ℤ t *ℤ v) ≡ pos 0
nothing f g w v s t u r ef eg es et =
    (λ i. u *ℤ (ef i *ℤ w -ℤ eg i *ℤ v) -ℤ r *ℤ (es i *ℤ w -ℤ et i *ℤ v))
    ∙ same_value (var 0 ⊗ (lit (pos 0) ⊗ var 1 ⊖ lit (pos 0) ⊗ var 2) ⊖ var 3 ⊗ (lit (pos 0) ⊗ var 1 ⊖ lit (pos 0) ⊗ var 2)) (lit (pos 0))
    (u ∷ w ∷ v ∷ r ∷ []) refl

module _ (a b c d : Point) (z m : Triple) (crossing : cross_product a b c d ≢ pos 0)
    (z_first : IsStraight (whole a) (whole b) z) (m_first : IsStraight (whole a) (whole b) m)
    (z_second : IsStraight (whole c) (whole d) z) (m_second : IsStraight (whole c) (whole d) m) where
  -- the points are equally far to the right,
  same_in_X : cross_product a b c d *ℤ (z.X *ℤ m.W -ℤ m.X *ℤ z.W) ≡ pos 0
  unfolding one first_line second_line product apart_first apart_second
  same_in_X =
      same_value (product ⊗ (var 8 ⊗ var 13 ⊖ var 11 ⊗ var 10)) ((var 6 ⊖ var 4) ⊗ apart_first ⊖ (var 2 ⊖ var 0) ⊗ apart_second)
      (a.x ∷ a.y ∷ b.x ∷ b.y ∷ c.x ∷ c.y ∷ d.x ∷ d.y ∷ z.X ∷ z.Y ∷ z.W ∷ m.X ∷ m.Y ∷ m.W ∷ []) refl
      ∙ nothing _ _ m.W z.W _ _ (d.x -ℤ c.x) (b.x -ℤ a.x) z_first m_first z_second m_second

  -- and as high,
  same_in_Y : cross_product a b c d *ℤ (z.Y *ℤ m.W -ℤ m.Y *ℤ z.W) ≡ pos 0
  unfolding one first_line second_line product apart_first apart_second
  same_in_Y =
      same_value (product ⊗ (var 9 ⊗ var 13 ⊖ var 12 ⊗ var 10)) ((var 7 ⊖ var 5) ⊗ apart_first ⊖ (var 3 ⊖ var 1) ⊗ apart_second)
      (a.x ∷ a.y ∷ b.x ∷ b.y ∷ c.x ∷ c.y ∷ d.x ∷ d.y ∷ z.X ∷ z.Y ∷ z.W ∷ m.X ∷ m.Y ∷ m.W ∷ []) refl
      ∙ nothing _ _ m.W z.W _ _ (d.y -ℤ c.y) (b.y -ℤ a.y) z_first m_first z_second m_second

  -- so on two lines that are not parallel there is one point
  pub one_meeting : IsSame z m
  one_meeting = record {
    same_x = eq_of_sub-zero _ _ (factor_zero _ _ crossing same_in_X);
    same_y = eq_of_sub-zero _ _ (factor_zero _ _ crossing same_in_Y);
  }

-- ---- lines that are parallel

-- two points of a parallel are as far from a line
pub as_far : (a b c d : Point) → determinant (whole a) (whole b) (whole d) -ℤ determinant (whole a) (whole b) (whole c) ≡ cross_product a b c d
unfolding one product
as_far a b c d =
    same_value (written_determinant (var 0) (var 1) one (var 2) (var 3) one (var 6) (var 7) one ⊖ written_determinant (var 0) (var 1) one (var 2) (var 3) one (var 4) (var 5) one)
    product (a.x ∷ a.y ∷ b.x ∷ b.y ∷ c.x ∷ c.y ∷ d.x ∷ d.y ∷ []) refl

-- a mean of two equal numbers that is 0
both_zero : (k l m z f g e : ℤ) → k *ℤ z ≡ l *ℤ f +ℤ m *ℤ g → z ≡ pos 0 → g -ℤ f ≡ e → e ≡ pos 0 → pos 0 <ℤ (l +ℤ m) → f ≡ pos 0
both_zero k l m z f g e mean zero differ none some =
    let same : g ≡ f = omega (arith, ints) in
    let sum : k *ℤ pos 0 ≡ l *ℤ f +ℤ m *ℤ f = ap (λ t. k *ℤ t) (sym zero) ∙ mean ∙ ap (λ t. l *ℤ f +ℤ m *ℤ t) same in
    factor_zero (l +ℤ m) f (λ e. omega (arith, ints)) (omega (arith, ints, add-mul l m f, mul-zero k))

module _ (a b c d : Point) (z : Triple) (at_z : IsPoint z) (parallel : cross_product a b c d ≡ pos 0)
    (straight : IsStraight (whole a) (whole b) z) (on : On z (whole c) (whole d)) where
  -- a segment that shares a point with a parallel line is on it, at its first end
  pub first_on_line : IsStraight (whole a) (whole b) (whole c)
  first_on_line =
      let e = combination_of_ends z c d at_z on in
      both_zero e.k e.l e.m _ _ _ _ (determinant_along z (whole c) (whole d) e (whole a) (whole b)) straight (as_far a b c d) parallel
      (weights_positive z (whole c) (whole d) e at_z)

  -- and at its last
  pub last_on_line : IsStraight (whole a) (whole b) (whole d)
  last_on_line = let e = as_far a b c d in let h = first_on_line in omega (arith, ints, parallel, e, h)
