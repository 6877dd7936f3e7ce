-- Sides and first corners of a set of points: where two sides begin at one point they end at one, and there is one first corner.
use Rattle.std.proofs.Common.{◌≡◌, ◌⊎◌, inl, inr, [], ◌∷◌, refl, subst, ap, ◌∙◌, ℤ, pos, ◌+ℤ◌, ◌-ℤ◌, ◌*ℤ◌, ◌<ℤ◌, ◌≤ℤ◌, neg_ℤ, arith}
use Rattle.std.proofs.lemmas.Int.{ints}
use Rattle.integer_algebra.proofs.Laws.{mul-zero, mul_comm, neg-mul, zero-mul}
use Rattle.integer_algebra.proofs.Polynomial.{var, ◌⊕◌, ◌⊖◌, ◌⊗◌, same_value, zero_value}
use Rattle.integer_algebra.proofs.SameSigns.{same_nonnegative}
use Rattle.integer_algebra.proofs.SignSteps.{at_least_unless, weak, zero_not_negative, zero_of_both}
use Rattle.integer_algebra.proofs.Signs.{factor_nonnegative, lt_or_le, mul_negative, mul_nonnegative, mul_positive}
use Rattle.plane.proofs.Order.{NotAfter, not_after_antisym, not_after_from, rise, run}
use Rattle.plane.proofs.Points.{same_sym}
use Rattle.plane.proofs.Segments.{on_antisym, on_first_end, on_last_end, on_nested, on_same_point}
use Rattle.plane.proofs.Turns.{determinant as det, determinant_same, determinant_shift, determinant_swap_last, four_triples_in_W, four_triples_in_X}
use Rattle.plane.proofs.Turns.{four_triples_in_Y, on_of_combination, parts}
use Rattle.plane.specs.Prelude.{determinant, IsLeft, IsPoint, IsRight, IsSame, IsStraight, On, Precedes, Triple}

-- ---- sides

-- the way from a to b is a side of the set: nothing of the set is right of it, and in line with it just what is on it
pub record IsSide (set : Triple → Type 0) (a b : Triple) : Type 0 where
  pub first_rational : IsPoint a
  pub last_rational : IsPoint b
  pub last_in_set : set b
  pub none_right : (p : Triple) → IsPoint p → set p → ¬ IsRight a b p
  pub on_line : (p : Triple) → IsPoint p → set p → IsStraight a b p → On p a b

module _ (set : Triple → Type 0) where
  module _ (a b c d : Triple) (one : IsSide set a b) (other : IsSide set c d) (same : IsSame a c) where
    -- the end of one side is not right of another that begins at the same point,
    not_beyond : pos 0 ≤ℤ determinant a d b
    not_beyond =
        let at = determinant_same d b c a (same_sym same) in
        let not = at_least_unless (other.none_right b one.last_rational one.last_in_set) in
        let k = same_nonnegative (determinant d b c) (determinant d b a) c.W a.W other.first_rational one.first_rational at (rw (determinant_shift c d b) not) in
        subst (λ t. pos 0 ≤ℤ t) (determinant_shift a d b) k

    -- so it is in line with it
    in_line : IsStraight a b d
    in_line = zero_of_both (determinant_swap_last a b d) (at_least_unless (one.none_right d other.last_rational other.last_in_set)) not_beyond

  -- two sides that begin at one point end at one
  pub sides_agree : (a b c d : Triple) → IsSide set a b → IsSide set c d → IsSame a c → IsSame b d
  sides_agree a b c d one other same =
      let at_a = one.first_rational in
      let at_b = one.last_rational in
      let at_c = other.first_rational in
      let at_d = other.last_rational in
      let near = one.on_line d at_d other.last_in_set (in_line a b c d one other same) in
      let far = other.on_line b at_b one.last_in_set (in_line c d a b other one (same_sym same)) in
      let moved = on_nested b c d a d at_b at_c at_d at_a at_d (on_same_point at_a same (on_first_end a d)) (on_last_end a d) far in
      on_antisym b d a at_b at_d at_a moved near

  -- ---- first points

  -- a is the lexicographically least point of the set
  pub record IsLeast (a : Triple) : Type 0 where
    pub in_set : set a
    pub rational : IsPoint a
    pub not_after : (p : Triple) → IsPoint p → set p → NotAfter a p

  -- there is one
  pub least_agree : (a c : Triple) → IsLeast a → IsLeast c → IsSame a c
  least_agree a c one other =
      not_after_antisym a c (one.not_after c other.rational other.in_set) (other.not_after a one.rational one.in_set)

-- ---- on the line of a side

-- one coordinate of the relation of four points, where one of its determinants is 0
in_relation : (k l m r x a b d : ℤ) → r ≡ pos 0 → l *ℤ a -ℤ m *ℤ b +ℤ k *ℤ x -ℤ r *ℤ d ≡ pos 0 → k *ℤ x ≡ neg_ℤ l *ℤ a +ℤ m *ℤ b
in_relation k l m r x a b d none e = omega (arith, ints, ap (λ z. z *ℤ d) none, zero-mul d, neg-mul l a)

-- a weight is not negative beside a positive number, where the product is not
weight_from : (k f m g r s : ℤ) → r ≡ pos 0 → k *ℤ f -ℤ m *ℤ g -ℤ r *ℤ s ≡ pos 0 → pos 0 <ℤ k → pos 0 ≤ℤ f → pos 0 <ℤ g → pos 0 ≤ℤ m
weight_from k f m g r s none e hk hf hg =
    factor_nonnegative g m hg (omega (arith, ints, mul_comm g m, mul_nonnegative k f (weak hk) hf, ap (λ z. z *ℤ s) none, zero-mul s))

module _ (z a b d x : Triple) (at_a : IsPoint a) (at_b : IsPoint b) (at_x : IsPoint x)
    (turns_first : IsLeft z a b) (turns_last : IsLeft b d a) (not_first : ¬ IsRight z a x) (not_last : ¬ IsRight b d x)
    (straight : IsStraight a b x) where
  -- what is in line with ab, and right of neither the side za before it nor the side bd after it, is on ab
  pub on_side : On x a b
  on_side =
      let turn : pos 0 <ℤ determinant a b d = subst (λ t. pos 0 <ℤ t) (determinant_shift a b d) turns_last in
      let first = weight_from (determinant a b d) (determinant z a x) (determinant a x d) (determinant z a b) (determinant a b x)
      (determinant z a d) straight
      (zero_value (det 1 2 4 ⊗ det 0 1 3 ⊖ det 1 3 4 ⊗ det 0 1 2 ⊖ det 1 2 3 ⊗ det 0 1 4) (parts (z ∷ a ∷ b ∷ x ∷ d ∷ []) []) refl)
      turn (at_least_unless not_first) turns_first in
      let back : pos 0 ≤ℤ neg_ℤ (determinant b x d) = subst (λ t. pos 0 ≤ℤ t) (determinant_swap_last b x d) (at_least_unless not_last) in
      on_of_combination x a b at_x at_a at_b (record {
        k = determinant a b d;
        l = neg_ℤ (determinant b x d);
        m = determinant a x d;
        k_positive = turn;
        l_nonnegative = back;
        m_nonnegative = first;
        in_X = in_relation _ _ _ _ x.X a.X b.X d.X straight (four_triples_in_X a b x d);
        in_Y = in_relation _ _ _ _ x.Y a.Y b.Y d.Y straight (four_triples_in_Y a b x d);
        in_W = in_relation _ _ _ _ x.W a.W b.W d.W straight (four_triples_in_W a b x d);
      })

-- ---- beside a least corner

-- a vector does not point backward
abbrev IsForward : ℤ → ℤ → Type 0
IsForward r s = (pos 0 <ℤ r) ⊎ ((r ≡ pos 0) × (pos 0 ≤ℤ s))

-- with a weight it goes to the right,
forward_across : (w r s : ℤ) → pos 0 ≤ℤ w → IsForward r s → pos 0 ≤ℤ (w *ℤ r)
forward_across w r s hw (inl h) = mul_nonnegative w r hw (weak h)
forward_across w r s hw (inr h) = mul_nonnegative w r hw (zero_not_negative h.0)

-- or upward
forward_upward : (w r s : ℤ) → pos 0 ≤ℤ w → IsForward r s → w *ℤ r ≡ pos 0 → pos 0 ≤ℤ (w *ℤ s)
forward_upward w r s hw (inr h) e = mul_nonnegative w s hw h.1
forward_upward w r s hw (inl h) e = elim (lt_or_le (pos 0) w) [
  | inl k ↦ absurd (omega (arith, ints, mul_positive w r k h))
  | inr k ↦
      let none : w ≡ pos 0 = omega (arith, ints) in
      zero_not_negative (ap (λ z. z *ℤ s) none ∙ zero-mul s)
]

-- so a sum of two such vectors with weights does not point backward
no_way_back : (k l m r s u v x y : ℤ) → pos 0 <ℤ k → pos 0 ≤ℤ l → pos 0 ≤ℤ m → IsForward u v → IsForward x y
    → k *ℤ r ≡ l *ℤ u +ℤ m *ℤ x → k *ℤ s ≡ l *ℤ v +ℤ m *ℤ y → ¬ ((r <ℤ pos 0) ⊎ ((r ≡ pos 0) × (s <ℤ pos 0)))
no_way_back k l m r s u v x y hk hl hm one other e f (inl h) =
    omega (arith, ints, e, mul_negative k r hk h, forward_across l u v hl one, forward_across m x y hm other)
no_way_back k l m r s u v x y hk hl hm one other e f (inr h) =
    let none : k *ℤ r ≡ pos 0 = ap (λ z. k *ℤ z) h.0 ∙ mul-zero k in
    let first = forward_across l u v hl one in
    let second = forward_across m x y hm other in
    let up = forward_upward l u v hl one (omega (arith, ints, e, none, first, second)) in
    let up_too = forward_upward m x y hm other (omega (arith, ints, e, none, first, second)) in
    omega (arith, ints, f, mul_negative k s hk h.1, up, up_too)

-- the way to a point that is not before a
way_forward : (a b : Triple) → NotAfter a b → IsForward (run b a) (rise b a)
way_forward a b (inl h) = inl (omega (arith, ints))
way_forward a b (inr h) = let e = h.0 in let k = h.1 in inr (omega (arith, ints), omega (arith, ints))

-- the way to one that is
way_back : (x a : Triple) → Precedes x a → (run x a <ℤ pos 0) ⊎ ((run x a ≡ pos 0) × (rise x a <ℤ pos 0))
way_back x a (inl h) = inl (omega (arith, ints))
way_back x a (inr h) = let e = h.0 in let k = h.1 in inr (omega (arith, ints), omega (arith, ints))

module _ (z a b x : Triple) (turns : IsLeft a b z) (not_first : ¬ IsRight z a x) (not_last : ¬ IsRight a b x)
    (before : NotAfter a z) (after : NotAfter a b) where
  -- what is right of neither side at a corner, whose neighbours do not precede it, does not precede it
  pub least_at_corner : NotAfter a x
  least_at_corner = not_after_from a x (λ h.
      no_way_back (determinant a b z) (determinant z a x) (determinant a b x) (run x a) (rise x a) (run b a) (rise b a) (run z a) (rise z a)
      turns (at_least_unless not_first) (at_least_unless not_last) (way_forward a b after) (way_forward a z before)
      (same_value (det 1 2 0 ⊗ (var 9 ⊗ var 5 ⊖ var 3 ⊗ var 11))
      (det 0 1 3 ⊗ (var 6 ⊗ var 5 ⊖ var 3 ⊗ var 8) ⊕ det 1 2 3 ⊗ (var 0 ⊗ var 5 ⊖ var 3 ⊗ var 2)) (parts (z ∷ a ∷ b ∷ x ∷ []) []) refl)
      (same_value (det 1 2 0 ⊗ (var 10 ⊗ var 5 ⊖ var 4 ⊗ var 11))
      (det 0 1 3 ⊗ (var 7 ⊗ var 5 ⊖ var 4 ⊗ var 8) ⊕ det 1 2 3 ⊗ (var 1 ⊗ var 5 ⊖ var 4 ⊗ var 2)) (parts (z ∷ a ∷ b ∷ x ∷ []) []) refl)
      (way_back x a h))
