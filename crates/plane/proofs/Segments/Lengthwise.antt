-- How far a rational point is along a segment.
use Rattle.std.proofs.Common.{◌≡◌, [], ◌∷◌, refl, ap, ◌∙◌, ℕ, ℤ, pos, ◌+ℤ◌, ◌-ℤ◌, ◌*ℤ◌, ◌<ℤ◌, ◌≤ℤ◌, arith}
use Rattle.std.proofs.lemmas.Int.{ints}
use Rattle.integer_algebra.proofs.Laws.{zero-mul}
use Rattle.integer_algebra.proofs.Polynomial.{Polynomial, lit, var, ◌⊕◌, ◌⊖◌, ◌⊗◌, same_value, zero_value}
use Rattle.integer_algebra.proofs.Signs.{is_negative, is_positive, is_zero, sign, square_nonnegative, square_positive}
use Rattle.plane.proofs.Order.{rise, run, written_rise, written_run}
use Rattle.plane.proofs.Turns.{linear, parts, IsCombination, determinant as det}
use Rattle.plane.specs.Prelude.{determinant, IsSame, IsStraight, Triple}

-- how far v is from a in the direction of b, times a number that is not negative
abbrev pub along : Triple → Triple → Triple → ℤ
along a b v = run v a *ℤ run b a +ℤ rise v a *ℤ rise b a

-- the square of the length of the way from a to b, times a positive number
abbrev pub square : Triple → Triple → ℤ
square a b = run b a *ℤ run b a +ℤ rise b a *ℤ rise b a

-- the way along a segment as a polynomial, of triples by their numbers
written_along : ℕ → ℕ → ℕ → Polynomial
written_along a b v = written_run v a ⊗ written_run b a ⊕ written_rise v a ⊗ written_rise b a

-- it is a linear functional
pub along_is_linear : (a b v : Triple) →
    along a b v ≡ linear (a.W *ℤ run b a) (a.W *ℤ rise b a) (pos 0 -ℤ (a.X *ℤ run b a +ℤ a.Y *ℤ rise b a)) v
unfolding written_along
along_is_linear a b v =
    same_value (written_along 0 1 2)
    ((var 2 ⊗ written_run 1 0) ⊗ var 6 ⊕ (var 2 ⊗ written_rise 1 0) ⊗ var 7
    ⊕ (lit (pos 0) ⊖ (var 0 ⊗ written_run 1 0 ⊕ var 1 ⊗ written_rise 1 0)) ⊗ var 8)
    (parts (a ∷ b ∷ v ∷ []) []) refl

-- ---- a point on the line of a segment, weighed by how far it is from the ends

-- nothing times a number less is the same,
none_less : (s d r : ℤ) → d ≡ pos 0 → s -ℤ d *ℤ r ≡ s
none_less s d r e = omega (arith, ints, ap (λ z. z *ℤ r) e, zero-mul r)

-- and nothing more
none_more : (s d r : ℤ) → d ≡ pos 0 → s +ℤ d *ℤ r ≡ s
none_more s d r e = omega (arith, ints, ap (λ z. z *ℤ r) e, zero-mul r)

module _ (a b x : Triple) where
  -- the ends so weighed make a multiple of each point, and a part for how far it is beside the line
  weighed_X : square a b *ℤ x.X ≡ (along b a x *ℤ a.X +ℤ along a b x *ℤ b.X) -ℤ determinant a b x *ℤ rise b a
  unfolding written_along
  weighed_X =
      same_value (written_along 0 1 1 ⊗ var 6)
      ((written_along 1 0 2 ⊗ var 0 ⊕ written_along 0 1 2 ⊗ var 3) ⊖ det 0 1 2 ⊗ written_rise 1 0)
      (parts (a ∷ b ∷ x ∷ []) []) refl

  -- in height,
  weighed_Y : square a b *ℤ x.Y ≡ (along b a x *ℤ a.Y +ℤ along a b x *ℤ b.Y) +ℤ determinant a b x *ℤ run b a
  unfolding written_along
  weighed_Y =
      same_value (written_along 0 1 1 ⊗ var 7)
      ((written_along 1 0 2 ⊗ var 1 ⊕ written_along 0 1 2 ⊗ var 4) ⊕ det 0 1 2 ⊗ written_run 1 0)
      (parts (a ∷ b ∷ x ∷ []) []) refl

  -- and in weight, where there is no such part
  pub weighed_W : square a b *ℤ x.W ≡ along b a x *ℤ a.W +ℤ along a b x *ℤ b.W
  unfolding written_along
  weighed_W =
      same_value (written_along 0 1 1 ⊗ var 8) (written_along 1 0 2 ⊗ var 2 ⊕ written_along 0 1 2 ⊗ var 5)
      (parts (a ∷ b ∷ x ∷ []) []) refl

  -- on the line, of a multiple of the point alone
  pub weighed_X_on_line : IsStraight a b x → square a b *ℤ x.X ≡ along b a x *ℤ a.X +ℤ along a b x *ℤ b.X
  weighed_X_on_line straight = weighed_X ∙ none_less _ _ _ straight

  -- in height too
  pub weighed_Y_on_line : IsStraight a b x → square a b *ℤ x.Y ≡ along b a x *ℤ a.Y +ℤ along a b x *ℤ b.Y
  weighed_Y_on_line straight = weighed_Y ∙ none_more _ _ _ straight

  -- so a point that is not before the first end and not beyond the last is on the segment
  pub combination_along : IsStraight a b x → pos 0 <ℤ square a b → pos 0 ≤ℤ along a b x → pos 0 ≤ℤ along b a x
      → IsCombination x a b
  combination_along straight some first last = record {
    k = square a b;
    l = along b a x;
    m = along a b x;
    k_positive = some;
    l_nonnegative = last;
    m_nonnegative = first;
    in_X = weighed_X_on_line straight;
    in_Y = weighed_Y_on_line straight;
    in_W = weighed_W;
  }

-- a point is not away from itself
pub along_itself : (a b : Triple) → along a b a ≡ pos 0
unfolding written_along
along_itself a b = zero_value (written_along 0 1 0) (parts (a ∷ b ∷ []) []) refl

-- ---- squares

-- the sum of two squares is not negative,
squares_not_negative : (x y : ℤ) → pos 0 ≤ℤ (x *ℤ x +ℤ y *ℤ y)
squares_not_negative x y = omega (arith, ints, square_nonnegative x, square_nonnegative y)

-- and 0 only where both numbers are
first_zero : (x y : ℤ) → x *ℤ x +ℤ y *ℤ y ≡ pos 0 → x ≡ pos 0
first_zero x y e = elim (sign x) [
  | is_zero n ↦ n
  | is_negative n ↦ absurd (omega (arith, ints, square_nonnegative y, square_positive x (λ z. omega (arith, ints))))
  | is_positive n ↦ absurd (omega (arith, ints, square_nonnegative y, square_positive x (λ z. omega (arith, ints))))
]

-- the second too
second_zero : (x y : ℤ) → x *ℤ x +ℤ y *ℤ y ≡ pos 0 → y ≡ pos 0
second_zero x y e = first_zero y x (omega (arith, ints))

-- products with 0 make 0
zero_products : (x y u v : ℤ) → x ≡ pos 0 → y ≡ pos 0 → x *ℤ u +ℤ y *ℤ v ≡ pos 0
zero_products x y u v ex ey = omega (arith, ints, ap (λ z. z *ℤ u) ex, ap (λ z. z *ℤ v) ey, zero-mul u, zero-mul v)

-- so the square of a way is not
pub square_not_negative : (a b : Triple) → pos 0 ≤ℤ square a b
square_not_negative a b = squares_not_negative (run b a) (rise b a)

-- the way back is as long
pub square_swapped : (a b : Triple) → square b a ≡ square a b
unfolding written_along
square_swapped a b = same_value (written_along 1 0 0) (written_along 0 1 1) (parts (a ∷ b ∷ []) []) refl

-- a point whose way from a is nothing is a
pub same_from_square : (x a : Triple) → square a x ≡ pos 0 → IsSame x a
same_from_square x a e =
    let ex : run x a ≡ pos 0 = first_zero (run x a) (rise x a) e in
    let ey : rise x a ≡ pos 0 = second_zero (run x a) (rise x a) e in
    record { same_x = omega (arith, ints); same_y = omega (arith, ints) }

-- in no direction is it away from a
pub along_from_square : (a b x : Triple) → square a b ≡ pos 0 → along a x b ≡ pos 0
along_from_square a b x e =
    zero_products (run b a) (rise b a) (run x a) (rise x a) (first_zero (run b a) (rise b a) e)
    (second_zero (run b a) (rise b a) e)
