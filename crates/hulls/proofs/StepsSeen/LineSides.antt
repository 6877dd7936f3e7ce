-- Points beside a line: to which side of it they are, seen along the line or between two points of a segment of it.
use Rattle.std.proofs.Common.{◌≡◌, ◌⊎◌, inl, inr, [], ◌∷◌, refl, sym, subst, ap, ◌∙◌, ℤ, pos, ◌+ℤ◌, ◌-ℤ◌, ◌*ℤ◌, neg_ℤ, ◌<ℤ◌, arith}
use Rattle.std.proofs.lemmas.Int.{ints}
use Rattle.integer_algebra.proofs.Certificate.{product_zero}
use Rattle.integer_algebra.proofs.Polynomial.{neg, var, ◌⊕◌, ◌⊖◌, ◌⊗◌, same_value}
use Rattle.integer_algebra.proofs.SignSteps.{negative_not_zero, positive_not_negative, positive_not_zero}
use Rattle.integer_algebra.proofs.Signs.{mul_negative, mul_negative_cases, mul_positive}
use Rattle.plane.proofs.Turns.{combination_of_ends, determinant_along_first, determinant_same_ends, determinant_shift, determinant_swap_last}
use Rattle.plane.specs.Beside.{IsBeside}
use Rattle.plane.specs.Prelude.{determinant, IsPoint, IsRight, IsStraight, On, Point, Triple, whole}

-- ---- two points of a segment

-- k E is l A + m B, where n A is v D, and n B is - u D
line_factor : (k l m n u v E A B D : ℤ) → k *ℤ E ≡ l *ℤ A +ℤ m *ℤ B → n *ℤ A ≡ v *ℤ D → n *ℤ B ≡ u *ℤ neg_ℤ D
    → (k *ℤ n) *ℤ E ≡ (l *ℤ v -ℤ m *ℤ u) *ℤ D
line_factor k l m n u v E A B D e f g =
    let xs = k ∷ l ∷ m ∷ n ∷ u ∷ v ∷ E ∷ A ∷ B ∷ D ∷ [] in
    same_value ((var 0 ⊗ var 3) ⊗ var 6) (var 3 ⊗ (var 0 ⊗ var 6)) xs refl
    ∙ ap (λ z. n *ℤ z) e
    ∙ same_value (var 3 ⊗ (var 1 ⊗ var 7 ⊕ var 2 ⊗ var 8)) (var 1 ⊗ (var 3 ⊗ var 7) ⊕ var 2 ⊗ (var 3 ⊗ var 8)) xs refl
    ∙ (λ i. l *ℤ f i +ℤ m *ℤ g i)
    ∙ same_value (var 1 ⊗ (var 5 ⊗ var 9) ⊕ var 2 ⊗ (var 4 ⊗ neg (var 9))) ((var 1 ⊗ var 5 ⊖ var 2 ⊗ var 4) ⊗ var 9) xs refl

-- one of two terms alone, where the other is 0: the second,
second_alone : (a b c x y z : ℤ) → a ≡ b *ℤ x +ℤ c *ℤ y → x ≡ pos 0 → y ≡ z → a ≡ c *ℤ z
second_alone a b c x y z e none same = omega (arith, ints, e, product_zero b none, ap (λ n. c *ℤ n) same)

-- and the first
first_alone : (a b c x y z : ℤ) → a ≡ b *ℤ x +ℤ c *ℤ y → y ≡ pos 0 → x ≡ z → a ≡ b *ℤ z
first_alone a b c x y z e none same = omega (arith, ints, e, product_zero c none, ap (λ n. b *ℤ n) same)

-- where k E is s D, and k positive, a negative E tells the signs of s and D
told : (k s E D : ℤ) → pos 0 <ℤ k → k *ℤ E ≡ s *ℤ D → E <ℤ pos 0 → ((pos 0 <ℤ s) × (D <ℤ pos 0)) ⊎ ((s <ℤ pos 0) × (pos 0 <ℤ D))
told k s E D some e less = mul_negative_cases s D (subst (λ z. z <ℤ pos 0) e (mul_negative k E some less))

module _ (x y : Point) (p q : Triple) (at_p : IsPoint p) (at_q : IsPoint q) (on_p : On p (whole x) (whole y)) (on_q : On q (whole x) (whole y)) where
  -- two points of a segment have a factor
  factor : ℤ
  factor =
      let c = combination_of_ends p x y at_p on_p in
      let d = combination_of_ends q x y at_q on_q in
      c.l *ℤ d.m -ℤ c.m *ℤ d.l

  -- and a weight
  weight : ℤ
  weight = (combination_of_ends p x y at_p on_p).k *ℤ (combination_of_ends q x y at_q on_q).k

  -- that is positive,
  weight_positive : pos 0 <ℤ weight
  unfolding weight
  weight_positive = mul_positive _ _ (combination_of_ends p x y at_p on_p).k_positive (combination_of_ends q x y at_q on_q).k_positive

  -- with which the areas are in proportion,
  areas : (g : Point) → weight *ℤ determinant p q (whole g) ≡ factor *ℤ determinant (whole x) (whole y) (whole g)
  unfolding weight factor
  areas g =
      let c = combination_of_ends p x y at_p on_p in
      let d = combination_of_ends q x y at_q on_q in
      let G = whole g in
      let X = whole x in
      let Y = whole y in
      line_factor c.k c.l c.m d.k d.l d.m (determinant p q G) (determinant X q G) (determinant Y q G) (determinant X Y G)
      (determinant_along_first p X Y c q G)
      (second_alone _ d.l d.m (determinant X G X) (determinant Y G X) (determinant X Y G)
      (ap (λ n. d.k *ℤ n) (sym (determinant_shift X q G)) ∙ determinant_along_first q X Y d G X)
      (determinant_same_ends X G) (determinant_shift X Y G))
      (first_alone _ d.l d.m (determinant X G Y) (determinant Y G Y) (neg_ℤ (determinant X Y G))
      (ap (λ n. d.k *ℤ n) (sym (determinant_shift Y q G)) ∙ determinant_along_first q X Y d G Y)
      (determinant_same_ends Y G) (determinant_swap_last X Y G))

  -- so two points that are right of the way between them are on one side of the segment
  pub beside_by : (g h : Point) → IsRight p q (whole g) → IsRight p q (whole h) → IsBeside x y g h
  beside_by g h right also =
      elim (told weight factor _ _ weight_positive (areas g) right) [
        | inl one ↦ elim (told weight factor _ _ weight_positive (areas h) also) [
          | inl other ↦ inr (one.1, other.1)
          | inr other ↦ absurd (positive_not_negative one.0 other.0)
        ]
        | inr one ↦ elim (told weight factor _ _ weight_positive (areas h) also) [
          | inl other ↦ absurd (positive_not_negative other.0 one.0)
          | inr other ↦ inl (one.1, other.1)
        ]
      ]

-- ---- one side

-- g and h are one point, or strictly on one side of the line from x to y
abbrev pub IsAlike : Point → Point → Point → Point → Type 0
IsAlike x y g h = (g ≡ h) ⊎ IsBeside x y g h

-- either one may come first
pub beside_back : (x y g h : Point) → IsBeside x y g h → IsBeside x y h g
beside_back x y g h (inl left) = inl (left.1, left.0)
beside_back x y g h (inr right) = inr (right.1, right.0)

-- of two alike ones too
pub alike_back : (x y g h : Point) → IsAlike x y g h → IsAlike x y h g
alike_back x y g h (inl same) = inl (sym same)
alike_back x y g h (inr beside) = inr (beside_back x y g h beside)

-- two that are so with a third are so with each other,
pub alike_on : (x y g h k : Point) → IsAlike x y g h → IsAlike x y h k → IsAlike x y g k
alike_on x y g h k (inl same) other = subst (λ z. IsAlike x y z k) (sym same) other
alike_on x y g h k (inr one) (inl same) = inr (subst (IsBeside x y g) same one)
alike_on x y g h k (inr (inl one)) (inr (inl other)) = inr (inl (one.0, other.1))
alike_on x y g h k (inr (inl one)) (inr (inr other)) = absurd (positive_not_negative one.1 other.0)
alike_on x y g h k (inr (inr one)) (inr (inl other)) = absurd (positive_not_negative other.0 one.1)
alike_on x y g h k (inr (inr one)) (inr (inr other)) = inr (inr (one.0, other.1))

-- and one of the line is so only with itself
pub alike_on_line : (x y g h : Point) → IsStraight (whole x) (whole y) (whole g) → IsAlike x y g h → g ≡ h
alike_on_line x y g h straight (inl same) = same
alike_on_line x y g h straight (inr (inl left)) = absurd (positive_not_zero left.0 straight)
alike_on_line x y g h straight (inr (inr right)) = absurd (negative_not_zero right.0 straight)
