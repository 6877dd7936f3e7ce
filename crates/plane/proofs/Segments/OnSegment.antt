-- A whole point is on a segment exactly if it is on the line through the ends and comes between them.
use Rattle.std.proofs.Common.{◌≡◌, inl, inr, [], ◌∷◌, refl, sym, subst, ap, ◌∙◌, ℤ, pos, ◌+ℤ◌, ◌-ℤ◌, ◌*ℤ◌, ◌<ℤ◌, arith}
use Rattle.std.proofs.lemmas.Int.{ints}
use Rattle.integer_algebra.proofs.Laws.{eq_of_sub-zero}
use Rattle.integer_algebra.proofs.Polynomial.{var, ◌⊕◌, ◌⊖◌, ◌⊗◌, same_value}
use Rattle.integer_algebra.proofs.Signs.{cancel_equal}
use Rattle.integer_algebra.proofs.Weights.{Forward, balance, balance_back, no_balance}
use Rattle.plane.proofs.Order.{Comparison, after, before, between_equal, between_reversed, compare_points, equal, not_after_last, not_before_first}
use Rattle.plane.proofs.Order.{x_at_most, y_at_most}
use Rattle.plane.proofs.Points.{whole_is_point}
use Rattle.plane.proofs.Segments.Segments.{combination_is_straight, on_first_end, on_reversed}
use Rattle.plane.proofs.Turns.{determinant_of_whole, straight_swap_first, IsCombination, combination_of_ends, on_of_combination, weights_positive}
use Rattle.plane.specs.Prelude.{IsBefore, IsBetween, IsStraight, On, Point, whole}

-- ---- a point on the segment is between the ends

-- the way from a point to a later one is forward
forward : (a b : Point) → IsBefore a b → Forward (b.x -ℤ a.x) (b.y -ℤ a.y)
forward a b (inl h) = inl (omega (arith, ints))
forward a b (inr h) = inr (omega (arith, ints), omega (arith, ints))

-- a combination of two points is between them
combination_is_between : (a p b : Point) → IsCombination (whole p) (whole a) (whole b) → IsBetween a p b
combination_is_between a p b c =
    let some = weights_positive (whole p) (whole a) (whole b) c (whole_is_point p) in
    record {
      not_after = λ h.
          no_balance c.l c.m _ _ _ _ c.l_nonnegative c.m_nonnegative some
          (balance c.k c.l c.m p.x a.x b.x c.in_X c.in_W)
          (balance c.k c.l c.m p.y a.y b.y c.in_Y c.in_W)
          (forward a p h.0) (forward b p h.1);
      not_before = λ h.
          no_balance c.l c.m _ _ _ _ c.l_nonnegative c.m_nonnegative some
          (balance_back c.k c.l c.m p.x a.x b.x c.in_X c.in_W)
          (balance_back c.k c.l c.m p.y a.y b.y c.in_Y c.in_W)
          (forward p a h.0) (forward p b h.1);
    }

-- a point on the segment is on the line and between the ends
pub on_segment_is : (p a b : Point) → On (whole p) (whole a) (whole b)
    → IsStraight (whole a) (whole b) (whole p) × IsBetween a p b
on_segment_is p a b on =
    let c = combination_of_ends (whole p) a b (whole_is_point p) on in
    (combination_is_straight (whole p) (whole a) (whole b) c, combination_is_between a p b c)

-- ---- a point on the line and between the ends is on the segment

-- on a line the ways from a point to two others are in proportion
straight_is_proportion : (a b p : Point) → IsStraight (whole a) (whole b) (whole p)
    → (b.x -ℤ a.x) *ℤ (p.y -ℤ a.y) ≡ (b.y -ℤ a.y) *ℤ (p.x -ℤ a.x)
straight_is_proportion a b p h = eq_of_sub-zero _ _ (sym (determinant_of_whole a b p) ∙ h)

-- one coordinate on a vertical line
upright : (x y u v s t : ℤ) → u ≡ s → v <ℤ t → (s -ℤ u) *ℤ (y -ℤ v) ≡ (t -ℤ v) *ℤ (x -ℤ u) → x ≡ u
upright x y u v s t e h k =
    let flat : s -ℤ u ≡ pos 0 = omega (arith, ints) in
    let none : (t -ℤ v) *ℤ (x -ℤ u) ≡ (t -ℤ v) *ℤ pos 0 = sym k ∙ ap (λ z. z *ℤ (y -ℤ v)) flat ∙ omega (arith, ints) in
    let same : x -ℤ u ≡ pos 0 = cancel_equal (x -ℤ u) (pos 0) (t -ℤ v) (omega (arith, ints)) none in
    omega (arith, ints)

-- a point on a vertical line is above or below its points
pub on_vertical : (a b p : Point) → a.x ≡ b.x → a.y <ℤ b.y → IsStraight (whole a) (whole b) (whole p) → p.x ≡ a.x
on_vertical a b p e h straight = upright p.x p.y a.x a.y b.x b.y e h (straight_is_proportion a b p straight)

-- the coordinate that weighs: x of p, u of a, s of b
weighing : (x u s : ℤ) → (s -ℤ u) *ℤ x ≡ (s -ℤ x) *ℤ u +ℤ (x -ℤ u) *ℤ s
weighing x u s =
    same_value ((var 2 ⊖ var 1) ⊗ var 0) ((var 2 ⊖ var 0) ⊗ var 1 ⊕ (var 0 ⊖ var 1) ⊗ var 2) (x ∷ u ∷ s ∷ []) refl

-- the weights
weights : (x u s : ℤ) → (s -ℤ u) *ℤ pos 1 ≡ (s -ℤ x) *ℤ pos 1 +ℤ (x -ℤ u) *ℤ pos 1
weights x u s = omega (arith, ints)

-- the other coordinate: y of p, v of a, t of b
weighed : (x y u v s t : ℤ) → (s -ℤ u) *ℤ (y -ℤ v) ≡ (t -ℤ v) *ℤ (x -ℤ u) → (s -ℤ u) *ℤ y ≡ (s -ℤ x) *ℤ v +ℤ (x -ℤ u) *ℤ t
weighed x y u v s t e =
    let xs = x ∷ y ∷ u ∷ v ∷ s ∷ t ∷ [] in
    same_value ((var 4 ⊖ var 2) ⊗ var 1) ((var 4 ⊖ var 2) ⊗ (var 1 ⊖ var 3) ⊕ (var 4 ⊖ var 2) ⊗ var 3) xs refl
    ∙ ap (λ z. z +ℤ (s -ℤ u) *ℤ v) e
    ∙ same_value ((var 5 ⊖ var 3) ⊗ (var 0 ⊖ var 2) ⊕ (var 4 ⊖ var 2) ⊗ var 3)
    ((var 4 ⊖ var 0) ⊗ var 3 ⊕ (var 0 ⊖ var 2) ⊗ var 5) xs refl

module _ (p a b : Point) (straight : IsStraight (whole a) (whole b) (whole p)) (between : IsBetween a p b) where
  -- where the last end is farther right
  by_x : a.x <ℤ b.x → IsCombination (whole p) (whole a) (whole b)
  by_x h = record {
    k = b.x -ℤ a.x;
    l = b.x -ℤ p.x;
    m = p.x -ℤ a.x;
    k_positive = omega (arith, ints);
    l_nonnegative = omega (arith, ints, x_at_most p b (not_after_last a p b (inl h) between));
    m_nonnegative = omega (arith, ints, x_at_most a p (not_before_first a p b (inl h) between));
    in_X = weighing p.x a.x b.x;
    in_Y = weighed p.x p.y a.x a.y b.x b.y (straight_is_proportion a b p straight);
    in_W = weights p.x a.x b.x;
  }

  -- where it is above
  by_y : a.x ≡ b.x → a.y <ℤ b.y → IsCombination (whole p) (whole a) (whole b)
  by_y e h =
      let same : p.x ≡ a.x = on_vertical a b p e h straight in
      record {
        k = b.y -ℤ a.y;
        l = b.y -ℤ p.y;
        m = p.y -ℤ a.y;
        k_positive = omega (arith, ints);
        l_nonnegative = omega (arith, ints, y_at_most p b (not_after_last a p b (inr (e, h)) between) (same ∙ e));
        m_nonnegative = omega (arith, ints, y_at_most a p (not_before_first a p b (inr (e, h)) between) (sym same));
        in_X = weighed p.y p.x a.y a.x b.y b.x (sym (straight_is_proportion a b p straight));
        in_Y = weighing p.y a.y b.y;
        in_W = weights p.y a.y b.y;
      }

  -- where it comes later
  later : IsBefore a b → On (whole p) (whole a) (whole b)
  later h =
      on_of_combination (whole p) (whole a) (whole b) (whole_is_point p) (whole_is_point a) (whole_is_point b)
      (elim h [ inl k ↦ by_x k | inr k ↦ by_y k.0 k.1 ])

-- a point on the line and between the ends is on the segment
pub on_segment_from : (p a b : Point) → IsStraight (whole a) (whole b) (whole p) → IsBetween a p b
    → On (whole p) (whole a) (whole b)
on_segment_from p a b straight between = go (compare_points a b)
  where
    go : Comparison a b → On (whole p) (whole a) (whole b)
    go (before h) = later p a b straight between h
    go (equal e) =
        let same : p ≡ a = between_equal a p (subst (λ (q : Point). IsBetween a p q) (sym e) between) in
        subst (λ (q : Point). On (whole q) (whole a) (whole b)) (sym same) (on_first_end (whole a) (whole b))
    go (after h) =
        on_reversed (whole p) (whole b) (whole a)
        (later p b a (straight_swap_first (whole a) (whole b) (whole p) straight) (between_reversed a p b between) h)
