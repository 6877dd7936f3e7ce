-- Two points on one line with a third, to one side of another line through that: they are on one ray.
use Rattle.std.proofs.Common.{◌≡◌, ◌⊎◌, inl, inr, [], ◌∷◌, refl, sym, ap, ◌∙◌, ℤ, pos, ◌+ℤ◌, ◌-ℤ◌, ◌*ℤ◌, neg_ℤ, ◌<ℤ◌, arith}
use Rattle.std.proofs.lemmas.Int.{ints}
use Rattle.integer_algebra.proofs.Laws.{neg-mul, zero-mul}
use Rattle.integer_algebra.proofs.Polynomial.{var, ◌⊕◌, ◌⊖◌, ◌⊗◌, same_value}
use Rattle.integer_algebra.proofs.SignSteps.{opposite_positive, weak}
use Rattle.integer_algebra.proofs.Signs.{lt_or_le, mul_positive}
use Rattle.plane.proofs.Segments.Sides.{within_from}
use Rattle.plane.proofs.Turns.{four_triples_in_W, four_triples_in_X, four_triples_in_Y, on_of_combination}
use Rattle.plane.specs.Prelude.{determinant, IsLeft, IsPoint, IsRight, IsSame, IsStraight, On, Triple}

-- one part of an equation, with another part on the other side
moved : (k l m u v x : ℤ) → k *ℤ u ≡ l *ℤ v +ℤ m *ℤ x → m *ℤ x ≡ neg_ℤ l *ℤ v +ℤ k *ℤ u
moved k l m u v x e = omega (arith, ints, neg-mul l v)

-- one coordinate of the relation of four points, where one of its determinants is 0
of_relation : (l r m k v b x u : ℤ) → r ≡ pos 0 → l *ℤ v -ℤ r *ℤ b +ℤ m *ℤ x -ℤ k *ℤ u ≡ pos 0 → k *ℤ u ≡ l *ℤ v +ℤ m *ℤ x
of_relation l r m k v b x u none e = omega (arith, ints, ap (λ n. n *ℤ b) none, zero-mul b)

-- the same with all signs turned
opposite_relation : (k l m u v x : ℤ) → k *ℤ u ≡ l *ℤ v +ℤ m *ℤ x → neg_ℤ k *ℤ u ≡ neg_ℤ l *ℤ v +ℤ neg_ℤ m *ℤ x
opposite_relation k l m u v x e = omega (arith, ints, neg-mul k u, neg-mul l v, neg-mul m x)

module _ (v x u : Triple) (at_v : IsPoint v) (at_x : IsPoint x) (at_u : IsPoint u) where
  -- where a positive multiple of u is a multiple of v and a positive one of x, they are on one ray from v
  ray_of : (k l m : ℤ) → pos 0 <ℤ k → pos 0 <ℤ m → k *ℤ u.X ≡ l *ℤ v.X +ℤ m *ℤ x.X → k *ℤ u.Y ≡ l *ℤ v.Y +ℤ m *ℤ x.Y
      → k *ℤ u.W ≡ l *ℤ v.W +ℤ m *ℤ x.W → On u v x ⊎ On x v u
  ray_of k l m hk hm in_X in_Y in_W = elim (lt_or_le l (pos 0)) [
    | inl below ↦ inr (on_of_combination x v u at_x at_v at_u (record {
      k = m;
      l = neg_ℤ l;
      m = k;
      k_positive = hm;
      l_nonnegative = weak (opposite_positive below);
      m_nonnegative = weak hk;
      in_X = moved k l m u.X v.X x.X in_X;
      in_Y = moved k l m u.Y v.Y x.Y in_Y;
      in_W = moved k l m u.W v.W x.W in_W;
    }))
    | inr high ↦ inl (on_of_combination u v x at_u at_v at_x (record {
      k = k;
      l = l;
      m = m;
      k_positive = hk;
      l_nonnegative = high;
      m_nonnegative = weak hm;
      in_X = in_X;
      in_Y = in_Y;
      in_W = in_W;
    }))
  ]

  module _ (b : Triple) (straight : IsStraight v x u) where
    -- so they are where both are left of a line through v,
    pub ray_on_left : IsLeft v b x → IsLeft v b u → On u v x ⊎ On x v u
    ray_on_left left_x left_u =
        ray_of (determinant v b x) (determinant b x u) (determinant v b u) left_x left_u
        (of_relation _ _ _ _ v.X b.X x.X u.X straight (four_triples_in_X v b x u))
        (of_relation _ _ _ _ v.Y b.Y x.Y u.Y straight (four_triples_in_Y v b x u))
        (of_relation _ _ _ _ v.W b.W x.W u.W straight (four_triples_in_W v b x u))

    -- and where both are right of it
    pub ray_on_right : IsRight v b x → IsRight v b u → On u v x ⊎ On x v u
    ray_on_right right_x right_u =
        ray_of (neg_ℤ (determinant v b x)) (neg_ℤ (determinant b x u)) (neg_ℤ (determinant v b u))
        (opposite_positive right_x) (opposite_positive right_u)
        (opposite_relation _ _ _ u.X v.X x.X (of_relation _ _ _ _ v.X b.X x.X u.X straight (four_triples_in_X v b x u)))
        (opposite_relation _ _ _ u.Y v.Y x.Y (of_relation _ _ _ _ v.Y b.Y x.Y u.Y straight (four_triples_in_Y v b x u)))
        (opposite_relation _ _ _ u.W v.W x.W (of_relation _ _ _ _ v.W b.W x.W u.W straight (four_triples_in_W v b x u)))

-- ---- rays that go on from one way

-- one coordinate, where v is between y and u, and between y and w
gone_on : (k l m i j n v y u w : ℤ) → k *ℤ v ≡ l *ℤ y +ℤ m *ℤ u → i *ℤ v ≡ j *ℤ y +ℤ n *ℤ w
    → (j *ℤ m) *ℤ u ≡ (j *ℤ k -ℤ l *ℤ i) *ℤ v +ℤ (l *ℤ n) *ℤ w
gone_on k l m i j n v y u w e f =
    let xs = k ∷ l ∷ m ∷ i ∷ j ∷ n ∷ v ∷ y ∷ u ∷ w ∷ [] in
    let rest = (var 1 ⊗ var 5) ⊗ var 9 in
    same_value ((var 4 ⊗ var 2) ⊗ var 8)
    (var 4 ⊗ (var 1 ⊗ var 7 ⊕ var 2 ⊗ var 8) ⊖ var 1 ⊗ (var 4 ⊗ var 7 ⊕ var 5 ⊗ var 9) ⊕ rest) xs refl
    ∙ (λ t. j *ℤ sym e t -ℤ l *ℤ sym f t +ℤ (l *ℤ n) *ℤ w)
    ∙ same_value (var 4 ⊗ (var 0 ⊗ var 6) ⊖ var 1 ⊗ (var 3 ⊗ var 6) ⊕ rest)
    ((var 4 ⊗ var 0 ⊖ var 1 ⊗ var 3) ⊗ var 6 ⊕ rest) xs refl

-- the ways from a point over v to two others go on along one ray
pub on_one_ray : (v y u w : Triple) → IsPoint v → IsPoint y → IsPoint u → IsPoint w → On v y u → On v y w → ¬ IsSame v y
    → ¬ IsSame v u → ¬ IsSame v w → On u v w ⊎ On w v u
on_one_ray v y u w at_v at_y at_u at_w on_u on_w not_y not_u not_w =
    let a = within_from v y u at_v at_y at_u on_u not_y not_u in
    let b = within_from v y w at_v at_y at_w on_w not_y not_w in
    let c = a.combination in
    let d = b.combination in
    let coordinate = gone_on c.k c.l c.m d.k d.l d.m in
    ray_of v w u at_v at_w at_u (d.l *ℤ c.m) (d.l *ℤ c.k -ℤ c.l *ℤ d.k) (c.l *ℤ d.m)
    (mul_positive d.l c.m b.first_weighs a.last_weighs) (mul_positive c.l d.m a.first_weighs b.last_weighs)
    (coordinate v.X y.X u.X w.X c.in_X d.in_X) (coordinate v.Y y.Y u.Y w.Y c.in_Y d.in_Y) (coordinate v.W y.W u.W w.W c.in_W d.in_W)
