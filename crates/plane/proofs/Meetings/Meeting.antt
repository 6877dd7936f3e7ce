-- A rational point against a line through whole points, the meeting of two such lines, and mediants.
use Rattle.std.proofs.Common.{◌≡◌, [], ◌∷◌, refl, ◌∙◌, ℤ, pos, ◌+ℤ◌, ◌-ℤ◌, ◌*ℤ◌, neg_ℤ, arith}
use Rattle.std.proofs.Math.IntN.{+ℤ_comm}
use Rattle.std.proofs.lemmas.Int.{ints}
use Rattle.integer_algebra.proofs.Laws.{add-mul, mul-add, mul_comm}
use Rattle.integer_algebra.proofs.Polynomial.{lit, var, ◌⊕◌, ◌⊖◌, ◌⊗◌, same_value}
use Rattle.plane.proofs.Points.{same_sym}
use Rattle.plane.proofs.Turns.{on_of_combination, written_determinant}
use Rattle.plane.specs.Line.{along, cross_product, mediant}
use Rattle.plane.specs.Prelude.{determinant, IsPoint, IsSame, IsStraight, On, Point, Triple, whole}

-- the determinant is the cross product of the way from a to b and of how far p is past a
pub determinant_by_offsets : (a b : Point) (p : Triple) →
    determinant (whole a) (whole b) p ≡ (b.x -ℤ a.x) *ℤ (p.Y -ℤ a.y *ℤ p.W) -ℤ (b.y -ℤ a.y) *ℤ (p.X -ℤ a.x *ℤ p.W)
determinant_by_offsets a b p =
    same_value
    (written_determinant (var 0) (var 1) (lit (pos 1)) (var 2) (var 3) (lit (pos 1)) (var 4) (var 5) (var 6))
    ((var 2 ⊖ var 0) ⊗ (var 5 ⊖ var 1 ⊗ var 6) ⊖ (var 3 ⊖ var 1) ⊗ (var 4 ⊖ var 0 ⊗ var 6))
    (a.x ∷ a.y ∷ b.x ∷ b.y ∷ p.X ∷ p.Y ∷ p.W ∷ []) refl

module _ (a b : Point) (s w : ℤ) where
  -- it is on the line through a and b
  pub along_is_straight : IsStraight (whole a) (whole b) (along a b s w)
  along_is_straight =
      determinant_by_offsets a b (along a b s w)
      ∙ same_value
      ((var 2 ⊖ var 0) ⊗ (var 1 ⊗ var 5 ⊕ (var 3 ⊖ var 1) ⊗ var 4 ⊖ var 1 ⊗ var 5)
      ⊖ (var 3 ⊖ var 1) ⊗ (var 0 ⊗ var 5 ⊕ (var 2 ⊖ var 0) ⊗ var 4 ⊖ var 0 ⊗ var 5))
      (lit (pos 0)) (a.x ∷ a.y ∷ b.x ∷ b.y ∷ s ∷ w ∷ []) refl

  -- and its place beside a line through c and d
  determinant_beside : (c d : Point) →
      determinant (whole c) (whole d) (along a b s w) ≡ w *ℤ cross_product a c c d -ℤ s *ℤ cross_product a b c d
  determinant_beside c d =
      determinant_by_offsets c d (along a b s w)
      ∙ same_value
      ((var 6 ⊖ var 4) ⊗ (var 1 ⊗ var 9 ⊕ (var 3 ⊖ var 1) ⊗ var 8 ⊖ var 5 ⊗ var 9)
      ⊖ (var 7 ⊖ var 5) ⊗ (var 0 ⊗ var 9 ⊕ (var 2 ⊖ var 0) ⊗ var 8 ⊖ var 4 ⊗ var 9))
      (var 9 ⊗ ((var 4 ⊖ var 0) ⊗ (var 7 ⊖ var 5) ⊖ (var 5 ⊖ var 1) ⊗ (var 6 ⊖ var 4))
      ⊖ var 8 ⊗ ((var 2 ⊖ var 0) ⊗ (var 7 ⊖ var 5) ⊖ (var 3 ⊖ var 1) ⊗ (var 6 ⊖ var 4)))
      (a.x ∷ a.y ∷ b.x ∷ b.y ∷ c.x ∷ c.y ∷ d.x ∷ d.y ∷ s ∷ w ∷ []) refl

module _ (a b c d : Point) where
  -- with these cross products it is on the line through c and d too
  pub meeting_is_straight : IsStraight (whole c) (whole d) (along a b (cross_product a c c d) (cross_product a b c d))
  meeting_is_straight =
      let s = cross_product a c c d in
      let w = cross_product a b c d in
      determinant_beside a b s w c d ∙ omega (arith, ints, mul_comm w s)

  -- read backward, the second line has the opposite cross product
  pub cross_product_reversed : cross_product a b d c ≡ neg_ℤ (cross_product a b c d)
  cross_product_reversed =
      same_value
      ((var 2 ⊖ var 0) ⊗ (var 5 ⊖ var 7) ⊖ (var 3 ⊖ var 1) ⊗ (var 4 ⊖ var 6))
      (lit (pos 0) ⊖ ((var 2 ⊖ var 0) ⊗ (var 7 ⊖ var 5) ⊖ (var 3 ⊖ var 1) ⊗ (var 6 ⊖ var 4)))
      (a.x ∷ a.y ∷ b.x ∷ b.y ∷ c.x ∷ c.y ∷ d.x ∷ d.y ∷ []) refl
      ∙ omega (arith, ints)

-- ---- mediants

-- one coordinate of a mediant that is the same as its first point: x and w of that point, u and v of the other
first_cancels : (x w u v : ℤ) → (x +ℤ u) *ℤ w ≡ x *ℤ (w +ℤ v) → x *ℤ v ≡ u *ℤ w
first_cancels x w u v h = omega (arith, ints, add-mul x u w, mul-add x w v)

module _ (p q : Triple) where
  -- the mediant of two points is on the segment between them
  pub mediant_on : IsPoint p → IsPoint q → On (mediant p q) p q
  mediant_on at_p at_q = on_of_combination (mediant p q) p q (omega (arith, ints, at_p, at_q)) at_p at_q (record {
    k = pos 1;
    l = pos 1;
    m = pos 1;
    k_positive = omega (arith, ints);
    l_nonnegative = omega (arith, ints);
    m_nonnegative = omega (arith, ints);
    in_X = mul-add (pos 1) p.X q.X;
    in_Y = mul-add (pos 1) p.Y q.Y;
    in_W = mul-add (pos 1) p.W q.W;
  })

  -- it is the first of them only if they are the same
  pub mediant_not_first : ¬ IsSame p q → ¬ IsSame (mediant p q) p
  mediant_not_first differ s = differ (record {
    same_x = first_cancels p.X p.W q.X q.W s.same_x;
    same_y = first_cancels p.Y p.W q.Y q.W s.same_y;
  })

-- and so it is with the second
pub mediant_not_second : (p q : Triple) → ¬ IsSame p q → ¬ IsSame (mediant p q) q
mediant_not_second p q differ s =
    mediant_not_first q p (λ t. differ (same_sym t)) (record {
      same_x = (λ i. +ℤ_comm q.X p.X i *ℤ q.W) ∙ s.same_x ∙ (λ i. q.X *ℤ +ℤ_comm p.W q.W i);
      same_y = (λ i. +ℤ_comm q.Y p.Y i *ℤ q.W) ∙ s.same_y ∙ (λ i. q.Y *ℤ +ℤ_comm p.W q.W i);
    })
