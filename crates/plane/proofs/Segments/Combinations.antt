-- Points on a segment as combinations of its ends: segments within segments, and points that are an end.
use Rattle.std.proofs.Common.{◌≡◌, [], ◌∷◌, refl, sym, ap, ◌∙◌, ℤ, pos, ◌+ℤ◌, ◌*ℤ◌, ◌<ℤ◌, ◌≤ℤ◌, arith}
use Rattle.std.proofs.lemmas.Int.{ints}
use Rattle.integer_algebra.proofs.Certificate.{◌⊞◌, ◌⊠◌}
use Rattle.integer_algebra.proofs.Laws.{mul-zero, mul_assoc, mul_left_comm, zero-mul}
use Rattle.integer_algebra.proofs.Polynomial.{var, ◌⊕◌, ◌⊗◌, same_value}
use Rattle.integer_algebra.proofs.SignSteps.{mean_not_positive, not_both, weak}
use Rattle.integer_algebra.proofs.Signs.{cancel_equal, is_negative, is_positive, is_zero, mul_nonpositive, mul_positive, sign}
use Rattle.plane.proofs.Turns.{linear, IsCombination, combination_of, linear_along, on_of_combination}
use Rattle.plane.specs.Prelude.{IsPoint, IsSame, On, Triple}

-- ---- a segment within another

-- one coordinate: k p = l q + m r, where i q = u a + v b and j r = s a + t b
nested : (k l m i u v j s t p q r a b : ℤ)
    → k *ℤ p ≡ l *ℤ q +ℤ m *ℤ r → i *ℤ q ≡ u *ℤ a +ℤ v *ℤ b → j *ℤ r ≡ s *ℤ a +ℤ t *ℤ b
    → ((i *ℤ j) *ℤ k) *ℤ p ≡ ((l *ℤ j) *ℤ u +ℤ (m *ℤ i) *ℤ s) *ℤ a +ℤ ((l *ℤ j) *ℤ v +ℤ (m *ℤ i) *ℤ t) *ℤ b
nested k l m i u v j s t p q r a b ep eq er =
    mul_assoc (i *ℤ j) k p ∙ ap (λ z. (i *ℤ j) *ℤ z) ep
    ∙ same_value ((var 2 ⊗ var 3) ⊗ (var 0 ⊗ var 4 ⊕ var 1 ⊗ var 5))
    ((var 0 ⊗ var 3) ⊗ (var 2 ⊗ var 4) ⊕ (var 1 ⊗ var 2) ⊗ (var 3 ⊗ var 5)) (l ∷ m ∷ i ∷ j ∷ q ∷ r ∷ []) refl
    ∙ (λ n. (l *ℤ j) *ℤ eq n +ℤ (m *ℤ i) *ℤ er n)
    ∙ same_value
    ((var 0 ⊗ var 3) ⊗ (var 4 ⊗ var 8 ⊕ var 5 ⊗ var 9) ⊕ (var 1 ⊗ var 2) ⊗ (var 6 ⊗ var 8 ⊕ var 7 ⊗ var 9))
    (((var 0 ⊗ var 3) ⊗ var 4 ⊕ (var 1 ⊗ var 2) ⊗ var 6) ⊗ var 8 ⊕ ((var 0 ⊗ var 3) ⊗ var 5 ⊕ (var 1 ⊗ var 2) ⊗ var 7) ⊗ var 9)
    (l ∷ m ∷ i ∷ j ∷ u ∷ v ∷ s ∷ t ∷ a ∷ b ∷ []) refl

-- two weights of such a sum
weight_within : (l j u m i s : ℤ) → pos 0 ≤ℤ l → pos 0 <ℤ j → pos 0 ≤ℤ u → pos 0 ≤ℤ m → pos 0 <ℤ i → pos 0 ≤ℤ s
    → pos 0 ≤ℤ ((l *ℤ j) *ℤ u +ℤ (m *ℤ i) *ℤ s)
weight_within l j u m i s hl hj hu hm hi hs = ((hl ⊠ weak hj) ⊠ hu) ⊞ ((hm ⊠ weak hi) ⊠ hs)

-- a combination of two combinations of a and b is one
combination_nested : (p q r a b : Triple) → IsCombination q a b → IsCombination r a b → IsCombination p q r
    → IsCombination p a b
combination_nested p q r a b f g c =
    let coordinate = nested c.k c.l c.m f.k f.l f.m g.k g.l g.m in
    let weight = λ (u s : ℤ) (hu : pos 0 ≤ℤ u) (hs : pos 0 ≤ℤ s).
    weight_within c.l g.k u c.m f.k s c.l_nonnegative g.k_positive hu c.m_nonnegative f.k_positive hs in
    record {
      k = (f.k *ℤ g.k) *ℤ c.k;
      l = (c.l *ℤ g.k) *ℤ f.l +ℤ (c.m *ℤ f.k) *ℤ g.l;
      m = (c.l *ℤ g.k) *ℤ f.m +ℤ (c.m *ℤ f.k) *ℤ g.m;
      k_positive = mul_positive _ _ (mul_positive _ _ f.k_positive g.k_positive) c.k_positive;
      l_nonnegative = weight f.l g.l f.l_nonnegative g.l_nonnegative;
      m_nonnegative = weight f.m g.m f.m_nonnegative g.m_nonnegative;
      in_X = coordinate p.X q.X r.X a.X b.X c.in_X f.in_X g.in_X;
      in_Y = coordinate p.Y q.Y r.Y a.Y b.Y c.in_Y f.in_Y g.in_Y;
      in_W = coordinate p.W q.W r.W a.W b.W c.in_W f.in_W g.in_W;
    }

-- the segment between two points of a segment is part of it
pub on_nested : (p q r a b : Triple) → IsPoint p → IsPoint q → IsPoint r → IsPoint a → IsPoint b
    → On q a b → On r a b → On p q r → On p a b
on_nested p q r a b at_p at_q at_r at_a at_b first second on =
    on_of_combination p a b at_p at_a at_b
    (combination_nested p q r a b (combination_of q a b at_q at_a at_b first) (combination_of r a b at_r at_a at_b second)
    (combination_of p q r at_p at_q at_r on))

-- ---- points that are an end

-- the parts of a sum may change places
sum_turned : (k x l u m s : ℤ) → k *ℤ x ≡ l *ℤ u +ℤ m *ℤ s → k *ℤ x ≡ m *ℤ s +ℤ l *ℤ u
sum_turned k x l u m s e = omega (arith, ints)

-- one coordinate: x and w of the point, u and v of the segment's first end, s and t of its last, which has no weight
as_first : (k l m x w u v s t : ℤ) → pos 0 <ℤ k → m ≡ pos 0 → k *ℤ x ≡ l *ℤ u +ℤ m *ℤ s → k *ℤ w ≡ l *ℤ v +ℤ m *ℤ t
    → x *ℤ v ≡ u *ℤ w
as_first k l m x w u v s t hk em ex ew =
    let first : k *ℤ x ≡ l *ℤ u = omega (arith, ints, ap (λ z. z *ℤ s) em, zero-mul s) in
    let weight : k *ℤ w ≡ l *ℤ v = omega (arith, ints, ap (λ z. z *ℤ t) em, zero-mul t) in
    cancel_equal (x *ℤ v) (u *ℤ w) k hk
    (sym (mul_assoc k x v) ∙ ap (λ z. z *ℤ v) first
    ∙ same_value ((var 0 ⊗ var 1) ⊗ var 2) (var 1 ⊗ (var 0 ⊗ var 2)) (l ∷ u ∷ v ∷ []) refl
    ∙ ap (λ z. u *ℤ z) (sym weight) ∙ mul_left_comm u k w)

-- where the last end has no weight, the point is the first end
pub same_without_last : (p a b : Triple) (c : IsCombination p a b) → c.m ≡ pos 0 → IsSame p a
same_without_last p a b c none = record {
  same_x = as_first c.k c.l c.m p.X p.W a.X a.W b.X b.W c.k_positive none c.in_X c.in_W;
  same_y = as_first c.k c.l c.m p.Y p.W a.Y a.W b.Y b.W c.k_positive none c.in_Y c.in_W;
}

-- where the first has none, it is the last
pub same_without_first : (p a b : Triple) (c : IsCombination p a b) → c.l ≡ pos 0 → IsSame p b
same_without_first p a b c none =
    let in_X = sum_turned c.k p.X c.l a.X c.m b.X c.in_X in
    let in_Y = sum_turned c.k p.Y c.l a.Y c.m b.Y c.in_Y in
    let in_W = sum_turned c.k p.W c.l a.W c.m b.W c.in_W in
    record {
      same_x = as_first c.k c.m c.l p.X p.W b.X b.W a.X a.W c.k_positive none in_X in_W;
      same_y = as_first c.k c.m c.l p.Y p.W b.Y b.W a.Y a.W c.k_positive none in_Y in_W;
    }

-- a value has no weight in a mean that is not positive, where it is positive and the other value is 0
no_weight : (k l m z f g : ℤ) → pos 0 <ℤ k → pos 0 ≤ℤ m → f ≡ pos 0 → pos 0 <ℤ g → z ≤ℤ pos 0 → k *ℤ z ≡ l *ℤ f +ℤ m *ℤ g
    → m ≡ pos 0
no_weight k l m z f g hk hm ef hg hz e = elim (sign m) [
  | is_negative n ↦ absurd (not_both n hm)
  | is_zero n ↦ n
  | is_positive n ↦
      let none = ap (λ t. l *ℤ t) ef in
      absurd (omega (arith, ints, e, none, mul-zero l, mul_positive m g n hg, mul_nonpositive k z (weak hk) hz))
]

-- where a functional is 0 at the first end and positive at the last, a point at which it is not positive is the first end
pub first_end_by : (p a b : Triple) (c : IsCombination p a b) (α β γ : ℤ) → linear α β γ a ≡ pos 0 → pos 0 <ℤ linear α β γ b
    → linear α β γ p ≤ℤ pos 0 → IsSame p a
first_end_by p a b c α β γ zero up h =
    same_without_last p a b c (no_weight c.k c.l c.m _ _ _ c.k_positive c.m_nonnegative zero up h (linear_along p a b c α β γ))

-- one coordinate between two triples of one point
between_same : (k l m x w u v s t : ℤ) → pos 0 <ℤ k → s *ℤ v ≡ u *ℤ t → k *ℤ x ≡ l *ℤ u +ℤ m *ℤ s → k *ℤ w ≡ l *ℤ v +ℤ m *ℤ t
    → x *ℤ v ≡ u *ℤ w
between_same k l m x w u v s t hk same ex ew =
    let xs = l ∷ m ∷ u ∷ v ∷ s ∷ t ∷ [] in
    cancel_equal (x *ℤ v) (u *ℤ w) k hk
    (sym (mul_assoc k x v) ∙ ap (λ z. z *ℤ v) ex
    ∙ same_value ((var 0 ⊗ var 2 ⊕ var 1 ⊗ var 4) ⊗ var 3) ((var 0 ⊗ var 2) ⊗ var 3 ⊕ var 1 ⊗ (var 4 ⊗ var 3)) xs refl
    ∙ ap (λ z. (l *ℤ u) *ℤ v +ℤ m *ℤ z) same
    ∙ same_value ((var 0 ⊗ var 2) ⊗ var 3 ⊕ var 1 ⊗ (var 2 ⊗ var 5)) (var 2 ⊗ (var 0 ⊗ var 3 ⊕ var 1 ⊗ var 5)) xs refl
    ∙ ap (λ z. u *ℤ z) (sym ew) ∙ mul_left_comm u k w)

-- a segment whose ends are the same has no other point
pub combination_of_same : (p a b : Triple) → IsSame b a → IsCombination p a b → IsSame p a
combination_of_same p a b same c = record {
  same_x = between_same c.k c.l c.m p.X p.W a.X a.W b.X b.W c.k_positive same.same_x c.in_X c.in_W;
  same_y = between_same c.k c.l c.m p.Y p.W a.Y a.W b.Y b.W c.k_positive same.same_y c.in_Y c.in_W;
}

-- ---- the sign of a functional on a segment

-- not positive at the ends, it is not positive between
pub not_positive_between : (z a b : Triple) → IsPoint z → IsPoint a → IsPoint b → (α β γ : ℤ)
    → linear α β γ a ≤ℤ pos 0 → linear α β γ b ≤ℤ pos 0 → On z a b → linear α β γ z ≤ℤ pos 0
not_positive_between z a b at_z at_a at_b α β γ ha hb on =
    let c = combination_of z a b at_z at_a at_b on in
    mean_not_positive c.k c.l c.m _ _ _ c.k_positive c.l_nonnegative c.m_nonnegative (linear_along z a b c α β γ) ha hb
