-- Points on a segment, as vectors: a positive multiple of the point is a sum of multiples of the ends.
use Rattle.std.proofs.Common.{◌≡◌, [], ◌∷◌, refl, sym, ap, ◌∙◌, ℕ, ◌+◌, ◌-◌, ℤ, pos, negsuc, ◌+ℤ◌, ◌-ℤ◌, ◌*ℤ◌, ◌<ℤ◌, ◌≤ℤ◌, arith}
use Rattle.std.proofs.lemmas.Int.{ints}
use Rattle.integer_algebra.proofs.Laws.{mul_comm}
use Rattle.integer_algebra.proofs.Polynomial.{var, ◌⊕◌, ◌⊖◌, ◌⊗◌, same_value}
use Rattle.integer_algebra.proofs.SignSteps.{weak, natural_not_negative}
use Rattle.integer_algebra.proofs.Signs.{mul_nonnegative, mul_positive}
use Rattle.integer_algebra.proofs.Weights.{some_weight}
use Rattle.plane.proofs.Points.{whole_is_point}
use Rattle.plane.proofs.Turns.Determinants.{determinant_shift, linear, parts}
use Rattle.plane.proofs.Turns.Written.{determinant as det}
use Rattle.plane.specs.Prelude.{determinant, IsPoint, IsSame, On, Point, Triple, whole}

-- k p = l a + m b as triples, where k is positive and l and m are not negative
pub record IsCombination (p a b : Triple) : Type 0 where
  pub k : ℤ
  pub l : ℤ
  pub m : ℤ
  pub k_positive : pos 0 <ℤ k
  pub l_nonnegative : pos 0 ≤ℤ l
  pub m_nonnegative : pos 0 ≤ℤ m
  pub in_X : k *ℤ p.X ≡ l *ℤ a.X +ℤ m *ℤ b.X
  pub in_Y : k *ℤ p.Y ≡ l *ℤ a.Y +ℤ m *ℤ b.Y
  pub in_W : k *ℤ p.W ≡ l *ℤ a.W +ℤ m *ℤ b.W

-- ---- from a point on a segment

-- one coordinate: x and w of p, u and v of a, s and t of b
coordinate_of : (d i j x w u v s t : ℤ) → x *ℤ ((j *ℤ v) *ℤ t) ≡ ((d *ℤ u) *ℤ t +ℤ (i *ℤ s) *ℤ v) *ℤ w
    → ((j *ℤ v) *ℤ t) *ℤ x ≡ ((d *ℤ t) *ℤ w) *ℤ u +ℤ ((i *ℤ v) *ℤ w) *ℤ s
coordinate_of d i j x w u v s t e =
    mul_comm ((j *ℤ v) *ℤ t) x ∙ e
    ∙ same_value (((var 0 ⊗ var 4) ⊗ var 7 ⊕ (var 1 ⊗ var 6) ⊗ var 5) ⊗ var 3)
    (((var 0 ⊗ var 7) ⊗ var 3) ⊗ var 4 ⊕ ((var 1 ⊗ var 5) ⊗ var 3) ⊗ var 6)
    (d ∷ i ∷ j ∷ w ∷ u ∷ v ∷ s ∷ t ∷ []) refl

-- the weight, where d and i make j
weight_of : (d i j w v t : ℤ) → j ≡ d +ℤ i → ((j *ℤ v) *ℤ t) *ℤ w ≡ ((d *ℤ t) *ℤ w) *ℤ v +ℤ ((i *ℤ v) *ℤ w) *ℤ t
weight_of d i j w v t e =
    ap (λ z. ((z *ℤ v) *ℤ t) *ℤ w) e
    ∙ same_value ((((var 0 ⊕ var 1) ⊗ var 3) ⊗ var 4) ⊗ var 2)
    (((var 0 ⊗ var 4) ⊗ var 2) ⊗ var 3 ⊕ ((var 1 ⊗ var 3) ⊗ var 2) ⊗ var 4)
    (d ∷ i ∷ w ∷ v ∷ t ∷ []) refl

-- a point on a segment is a combination of the ends
pub combination_of : (p a b : Triple) → IsPoint p → IsPoint a → IsPoint b → On p a b → IsCombination p a b
combination_of p a b at_p at_a at_b on =
    let d : ℤ = pos (on.j - on.i) in
    let i : ℤ = pos on.i in
    let j : ℤ = pos on.j in
    let positive : pos 0 <ℤ j = omega (arith, ints, on.positive) in
    let together : j ≡ d +ℤ i = omega (arith, ints, on.within) in
    record {
      k = (j *ℤ a.W) *ℤ b.W;
      l = (d *ℤ b.W) *ℤ p.W;
      m = (i *ℤ a.W) *ℤ p.W;
      k_positive = mul_positive _ _ (mul_positive _ _ positive at_a) at_b;
      l_nonnegative = mul_nonnegative _ _ (mul_nonnegative _ _ (natural_not_negative _) (weak at_b)) (weak at_p);
      m_nonnegative = mul_nonnegative _ _ (mul_nonnegative _ _ (natural_not_negative _) (weak at_a)) (weak at_p);
      in_X = coordinate_of d i j p.X p.W a.X a.W b.X b.W on.same.same_x;
      in_Y = coordinate_of d i j p.Y p.W a.Y a.W b.Y b.W on.same.same_y;
      in_W = weight_of d i j p.W a.W b.W together;
    }

-- so it is where the ends are whole
pub combination_of_ends : (p : Triple) (a b : Point) → IsPoint p → On p (whole a) (whole b) → IsCombination p (whole a) (whole b)
combination_of_ends p a b at_p on = combination_of p (whole a) (whole b) at_p (whole_is_point a) (whole_is_point b) on

-- ---- from a combination

-- an integer that is not negative is a natural number
natural : (z : ℤ) → pos 0 ≤ℤ z → (n : ℕ) × (z ≡ pos n)
natural (pos n) h = (n, refl)
natural (negsuc n) h = absurd (omega (arith, ints))

-- one coordinate
same_from : (x w u v s t k l m d i j : ℤ) → j ≡ k *ℤ w → d ≡ l *ℤ v → i ≡ m *ℤ t → k *ℤ x ≡ l *ℤ u +ℤ m *ℤ s
    → x *ℤ ((j *ℤ v) *ℤ t) ≡ ((d *ℤ u) *ℤ t +ℤ (i *ℤ s) *ℤ v) *ℤ w
same_from x w u v s t k l m d i j ej ed ei e =
    let xs = x ∷ w ∷ u ∷ v ∷ s ∷ t ∷ k ∷ l ∷ m ∷ [] in
    rw (ej, ed, ei)
    (same_value (var 0 ⊗ (((var 6 ⊗ var 1) ⊗ var 3) ⊗ var 5)) ((var 6 ⊗ var 0) ⊗ ((var 1 ⊗ var 3) ⊗ var 5)) xs refl
    ∙ ap (λ z. z *ℤ ((w *ℤ v) *ℤ t)) e
    ∙ same_value ((var 7 ⊗ var 2 ⊕ var 8 ⊗ var 4) ⊗ ((var 1 ⊗ var 3) ⊗ var 5))
    ((((var 7 ⊗ var 3) ⊗ var 2) ⊗ var 5 ⊕ ((var 8 ⊗ var 5) ⊗ var 4) ⊗ var 3) ⊗ var 1) xs refl)

-- a combination of two points is on the segment between them
pub on_of_combination : (p a b : Triple) → IsPoint p → IsPoint a → IsPoint b → IsCombination p a b → On p a b
on_of_combination p a b at_p at_a at_b c =
    let (d, ed) = natural (c.l *ℤ a.W) (mul_nonnegative _ _ c.l_nonnegative (weak at_a)) in
    let (i, ei) = natural (c.m *ℤ b.W) (mul_nonnegative _ _ c.m_nonnegative (weak at_b)) in
    let positive : pos 0 <ℤ (c.k *ℤ p.W) = mul_positive _ _ c.k_positive at_p in
    let whole_way : pos (d + i) ≡ c.k *ℤ p.W = omega (arith, ints, ed, ei, c.in_W) in
    let rest : pos (d + i - i) ≡ c.l *ℤ a.W = omega (arith, ints, ed) in
    record {
      i = i;
      j = d + i;
      positive = omega (arith, ints, positive, whole_way);
      within = omega arith;
      same = record {
        same_x = same_from p.X p.W a.X a.W b.X b.W c.k c.l c.m _ _ _ whole_way rest (sym ei) c.in_X;
        same_y = same_from p.Y p.W a.Y a.W b.Y b.W c.k c.l c.m _ _ _ whole_way rest (sym ei) c.in_Y;
      };
    }

-- ---- linear functionals

-- a factor goes into a functional
gather : (k α β γ x y w : ℤ) → k *ℤ (α *ℤ x +ℤ β *ℤ y +ℤ γ *ℤ w) ≡ α *ℤ (k *ℤ x) +ℤ β *ℤ (k *ℤ y) +ℤ γ *ℤ (k *ℤ w)
gather k α β γ x y w =
    same_value (var 0 ⊗ (var 1 ⊗ var 4 ⊕ var 2 ⊗ var 5 ⊕ var 3 ⊗ var 6))
    (var 1 ⊗ (var 0 ⊗ var 4) ⊕ var 2 ⊗ (var 0 ⊗ var 5) ⊕ var 3 ⊗ (var 0 ⊗ var 6))
    (k ∷ α ∷ β ∷ γ ∷ x ∷ y ∷ w ∷ []) refl

-- a functional of a sum of multiples
spread : (l m α β γ x y w u v t : ℤ) →
    α *ℤ (l *ℤ x +ℤ m *ℤ u) +ℤ β *ℤ (l *ℤ y +ℤ m *ℤ v) +ℤ γ *ℤ (l *ℤ w +ℤ m *ℤ t)
    ≡ l *ℤ (α *ℤ x +ℤ β *ℤ y +ℤ γ *ℤ w) +ℤ m *ℤ (α *ℤ u +ℤ β *ℤ v +ℤ γ *ℤ t)
spread l m α β γ x y w u v t =
    same_value
    (var 2 ⊗ (var 0 ⊗ var 5 ⊕ var 1 ⊗ var 8) ⊕ var 3 ⊗ (var 0 ⊗ var 6 ⊕ var 1 ⊗ var 9) ⊕ var 4 ⊗ (var 0 ⊗ var 7 ⊕ var 1 ⊗ var 10))
    (var 0 ⊗ (var 2 ⊗ var 5 ⊕ var 3 ⊗ var 6 ⊕ var 4 ⊗ var 7) ⊕ var 1 ⊗ (var 2 ⊗ var 8 ⊕ var 3 ⊗ var 9 ⊕ var 4 ⊗ var 10))
    (l ∷ m ∷ α ∷ β ∷ γ ∷ x ∷ y ∷ w ∷ u ∷ v ∷ t ∷ []) refl

-- a determinant is a linear functional of its last row
pub determinant_is_linear : (x y p : Triple) →
    determinant x y p ≡ linear (x.Y *ℤ y.W -ℤ y.Y *ℤ x.W) (y.X *ℤ x.W -ℤ x.X *ℤ y.W) (x.X *ℤ y.Y -ℤ y.X *ℤ x.Y) p
determinant_is_linear x y p =
    same_value (det 0 1 2)
    ((var 1 ⊗ var 5 ⊖ var 4 ⊗ var 2) ⊗ var 6 ⊕ (var 3 ⊗ var 2 ⊖ var 0 ⊗ var 5) ⊗ var 7 ⊕ (var 0 ⊗ var 4 ⊖ var 3 ⊗ var 1) ⊗ var 8)
    (parts (x ∷ y ∷ p ∷ []) []) refl

module _ (p a b : Triple) (c : IsCombination p a b) where
  -- what a linear functional is at the point
  pub linear_along : (α β γ : ℤ) → c.k *ℤ linear α β γ p ≡ c.l *ℤ linear α β γ a +ℤ c.m *ℤ linear α β γ b
  linear_along α β γ =
      gather c.k α β γ p.X p.Y p.W ∙ (λ i. α *ℤ c.in_X i +ℤ β *ℤ c.in_Y i +ℤ γ *ℤ c.in_W i)
      ∙ spread c.l c.m α β γ a.X a.Y a.W b.X b.Y b.W

  -- what a determinant is there, in its last row
  pub determinant_along : (x y : Triple) → c.k *ℤ determinant x y p ≡ c.l *ℤ determinant x y a +ℤ c.m *ℤ determinant x y b
  determinant_along x y = simp determinant_is_linear (linear_along _ _ _)

  -- and in its first
  pub determinant_along_first : (x y : Triple) → c.k *ℤ determinant p x y ≡ c.l *ℤ determinant a x y +ℤ c.m *ℤ determinant b x y
  determinant_along_first x y =
      rw (← determinant_shift p x y, ← determinant_shift a x y, ← determinant_shift b x y) (determinant_along x y)

  -- the weights of a point's ends are not both 0
  pub weights_positive : IsPoint p → pos 0 <ℤ (c.l +ℤ c.m)
  weights_positive at_p = some_weight c.k c.l c.m p.W a.W b.W c.k_positive at_p c.l_nonnegative c.m_nonnegative c.in_W

-- ---- linear functionals and turns do not tell two triples of one rational point apart

-- a linear functional of a point, times the weight of the other triple
linear_same : (p q : Triple) (α β γ : ℤ) → IsSame p q → linear α β γ p *ℤ q.W ≡ linear α β γ q *ℤ p.W
linear_same p q α β γ s =
    same_value ((var 0 ⊗ var 3 ⊕ var 1 ⊗ var 4 ⊕ var 2 ⊗ var 5) ⊗ var 6)
    (var 0 ⊗ (var 3 ⊗ var 6) ⊕ var 1 ⊗ (var 4 ⊗ var 6) ⊕ var 2 ⊗ (var 6 ⊗ var 5))
    (α ∷ β ∷ γ ∷ p.X ∷ p.Y ∷ p.W ∷ q.W ∷ []) refl
    ∙ (λ i. α *ℤ s.same_x i +ℤ β *ℤ s.same_y i +ℤ γ *ℤ (q.W *ℤ p.W))
    ∙ same_value (var 0 ⊗ (var 3 ⊗ var 6) ⊕ var 1 ⊗ (var 4 ⊗ var 6) ⊕ var 2 ⊗ (var 5 ⊗ var 6))
    ((var 0 ⊗ var 3 ⊕ var 1 ⊗ var 4 ⊕ var 2 ⊗ var 5) ⊗ var 6)
    (α ∷ β ∷ γ ∷ q.X ∷ q.Y ∷ q.W ∷ p.W ∷ []) refl

-- so it is with a determinant
pub determinant_same : (a b p q : Triple) → IsSame p q → determinant a b p *ℤ q.W ≡ determinant a b q *ℤ p.W
determinant_same a b p q s = simp determinant_is_linear (linear_same p q _ _ _ s)
