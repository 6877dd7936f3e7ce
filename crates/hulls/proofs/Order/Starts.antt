-- Points on the ray from t through e, or to the right of it, or to the left of it: all are ahead of one line through t.
use Rattle.std.proofs.Common.{◌≡◌, ◌≢◌, ◌⊎◌, inl, inr, refl, sym, subst, ℤ, pos, neg_ℤ, ◌+ℤ◌, ◌-ℤ◌, ◌*ℤ◌, ◌<ℤ◌, ◌≤ℤ◌, [], ◌∷◌, arith}
use Rattle.std.proofs.lemmas.Int.{ints}
use Rattle.integer_algebra.proofs.Certificate.{product_zero}
use Rattle.integer_algebra.proofs.Laws.{mul-neg, neg-mul}
use Rattle.integer_algebra.proofs.Polynomial.{lit, neg, var, ◌⊕◌, ◌⊖◌, ◌⊗◌, same_value}
use Rattle.integer_algebra.proofs.SignSteps.{opposite_not_negative, weak}
use Rattle.integer_algebra.proofs.Signs.{lt_or_le, mul_order, squares_positive}
use Rattle.plane.proofs.Points.{same_whole, whole_is_point}
use Rattle.plane.proofs.Turns.{on_of_combination, written_determinant}
use Rattle.plane.specs.Prelude.{determinant, IsLeft, IsRight, IsStraight, On, Point, whole}
use Rattle.hulls.proofs.Order.Followed.{AreAhead}

-- ---- how far a point is ahead

-- the way from t to p, along that from t to e
abbrev along : Point → Point → Point → ℤ
along t e p = (e.x -ℤ t.x) *ℤ (p.x -ℤ t.x) +ℤ (e.y -ℤ t.y) *ℤ (p.y -ℤ t.y)

-- a point to the right of the ray to e, the farther behind the greater n is
abbrev behind : Point → Point → ℤ → Point
behind t e n = record { x = t.x -ℤ n *ℤ (e.x -ℤ t.x) +ℤ (e.y -ℤ t.y); y = t.y -ℤ n *ℤ (e.y -ℤ t.y) -ℤ (e.x -ℤ t.x) }

-- what is ahead of the line to it
ahead_is : (t e p : Point) (n : ℤ) →
    determinant (whole t) (whole (behind t e n)) (whole p) ≡ along t e p -ℤ n *ℤ determinant (whole t) (whole e) (whole p)
ahead_is t e p n =
    let one = lit (pos 1) in
    let dx = var 2 ⊖ var 0 in
    let dy = var 3 ⊖ var 1 in
    same_value (written_determinant (var 0) (var 1) one (var 0 ⊖ var 6 ⊗ dx ⊕ dy) (var 1 ⊖ var 6 ⊗ dy ⊖ dx) one (var 4) (var 5) one)
    ((dx ⊗ (var 4 ⊖ var 0) ⊕ dy ⊗ (var 5 ⊖ var 1)) ⊖ var 6 ⊗ written_determinant (var 0) (var 1) one (var 2) (var 3) one (var 4) (var 5) one)
    (t.x ∷ t.y ∷ e.x ∷ e.y ∷ p.x ∷ p.y ∷ n ∷ []) refl

-- a great multiple of a number below 0 outweighs another
outweighs : (n d f : ℤ) → pos 0 <ℤ n → pos 0 <ℤ (n +ℤ f) → d <ℤ pos 0 → pos 0 <ℤ (f -ℤ n *ℤ d)
outweighs n d f hn h right =
    let far = mul_order d (neg_ℤ (pos 1)) n (weak hn) (omega (arith, ints)) in
    omega (arith, ints)

-- and so does one of a number above 0, taken away
outweighs_opposite : (n d f : ℤ) → pos 0 <ℤ n → pos 0 <ℤ (n +ℤ f) → pos 0 <ℤ d → pos 0 <ℤ (f -ℤ neg_ℤ n *ℤ d)
outweighs_opposite n d f hn h left =
    let far = outweighs n (neg_ℤ d) f hn h (omega (arith, ints)) in
    omega (arith, ints, neg-mul n d, mul-neg n d)

-- to every number there is one that isn't negative and outweighs it
margin : (z : ℤ) → (n : ℤ) × (pos 0 ≤ℤ n) × (pos 0 ≤ℤ (n +ℤ z))
margin z = elim (lt_or_le (pos 0) z) [
  | inl some ↦ (pos 0, omega (arith, ints), omega (arith, ints))
  | inr low ↦ (neg_ℤ z, opposite_not_negative low, omega (arith, ints))
]

-- ---- on the ray

-- the way to itself is positive
own_way : (t e : Point) → t ≢ e → pos 0 <ℤ along t e e
own_way t e differ =
    squares_positive (e.x -ℤ t.x) (e.y -ℤ t.y)
    (λ none.
    let at_x = none.0 in
    let at_y = none.1 in
    differ (same_whole t e (record { same_x = omega (arith, ints); same_y = omega (arith, ints) })))

-- a sum with a part that is nothing
without : (z x b d : ℤ) → d ≡ pos 0 → z ≡ x +ℤ b *ℤ d → z ≡ x
without z x b d none e = let nothing = product_zero b none in omega (arith, ints)

-- a point on the line of the ray that is not ahead of t has t between
behind_on : (t e p : Point) → t ≢ e → IsStraight (whole t) (whole e) (whole p) → along t e p ≤ℤ pos 0 → On (whole t) (whole e) (whole p)
behind_on t e p differ straight back =
    let one = lit (pos 1) in
    let dx = var 2 ⊖ var 0 in
    let dy = var 3 ⊖ var 1 in
    let along_e = dx ⊗ dx ⊕ dy ⊗ dy in
    let along_p = dx ⊗ (var 4 ⊖ var 0) ⊕ dy ⊗ (var 5 ⊖ var 1) in
    let turn = written_determinant (var 0) (var 1) one (var 2) (var 3) one (var 4) (var 5) one in
    let at = t.x ∷ t.y ∷ e.x ∷ e.y ∷ p.x ∷ p.y ∷ [] in
    on_of_combination (whole t) (whole e) (whole p) (whole_is_point t) (whole_is_point e) (whole_is_point p) (record {
      k = along t e e -ℤ along t e p;
      l = neg_ℤ (along t e p);
      m = along t e e;
      k_positive = let some = own_way t e differ in omega (arith, ints);
      l_nonnegative = opposite_not_negative back;
      m_nonnegative = let some = own_way t e differ in omega (arith, ints);
      in_X = without _ _ (e.y -ℤ t.y) _ straight
          (same_value ((along_e ⊖ along_p) ⊗ var 0) ((neg along_p ⊗ var 2 ⊕ along_e ⊗ var 4) ⊕ dy ⊗ turn) at refl);
      in_Y = without _ _ (t.x -ℤ e.x) _ straight
          (same_value ((along_e ⊖ along_p) ⊗ var 1) ((neg along_p ⊗ var 3 ⊕ along_e ⊗ var 5) ⊕ (var 0 ⊖ var 2) ⊗ turn) at refl);
      in_W = omega (arith, ints);
    })

-- ---- one line for three

-- the point is on the ray from t through e
abbrev pub IsOnRay : Point → Point → Point → Type 0
IsOnRay t e p = IsStraight (whole t) (whole e) (whole p) × ¬ On (whole t) (whole e) (whole p)

-- it is on that ray or to the right of it
abbrev pub IsRightOn : Point → Point → Point → Type 0
IsRightOn t e p = IsRight (whole t) (whole e) (whole p) ⊎ IsOnRay t e p

-- it is on that ray or to the left of it
abbrev pub IsLeftOn : Point → Point → Point → Type 0
IsLeftOn t e p = IsLeft (whole t) (whole e) (whole p) ⊎ IsOnRay t e p

module _ (t e : Point) (differ : t ≢ e) where
  -- a point of the ray is ahead of the line to each point behind or ahead,
  on_ray_ahead : (n : ℤ) (p : Point) → IsOnRay t e p → pos 0 <ℤ determinant (whole t) (whole (behind t e n)) (whole p)
  on_ray_ahead n p on_ray = elim (lt_or_le (pos 0) (along t e p)) [
    | inl some ↦ subst (λ z. pos 0 <ℤ z) (sym (ahead_is t e p n)) (let none = product_zero n on_ray.0 in omega (arith, ints))
    | inr back ↦ absurd (on_ray.1 (behind_on t e p differ on_ray.0 back))
  ]

  -- what is on it or to the right is ahead of that to one far enough behind,
  ahead_from : (n : ℤ) (p : Point) → pos 0 <ℤ n → pos 0 <ℤ (n +ℤ along t e p) → IsRightOn t e p
      → pos 0 <ℤ determinant (whole t) (whole (behind t e n)) (whole p)
  ahead_from n p hn h (inl right) = subst (λ z. pos 0 <ℤ z) (sym (ahead_is t e p n)) (outweighs n _ _ hn h right)
  ahead_from n p hn h (inr on_ray) = on_ray_ahead n p on_ray

  -- and what is on it or to the left of that to one far enough ahead
  ahead_from_left : (n : ℤ) (p : Point) → pos 0 <ℤ n → pos 0 <ℤ (n +ℤ along t e p) → IsLeftOn t e p
      → pos 0 <ℤ determinant (whole t) (whole (behind t e (neg_ℤ n))) (whole p)
  ahead_from_left n p hn h (inl left) = subst (λ z. pos 0 <ℤ z) (sym (ahead_is t e p (neg_ℤ n))) (outweighs_opposite n _ _ hn h left)
  ahead_from_left n p hn h (inr on_ray) = on_ray_ahead (neg_ℤ n) p on_ray

  -- so three such points are ahead of one line
  all_ahead : (Is : Point → Type 0) (s : ℤ → ℤ) → ((n : ℤ) (p : Point) → pos 0 <ℤ n → pos 0 <ℤ (n +ℤ along t e p) → Is p
      → pos 0 <ℤ determinant (whole t) (whole (behind t e (s n))) (whole p)) → (p q r : Point) → Is p → Is q → Is r → AreAhead t p q r
  all_ahead Is s far p q r first second third =
      let (k, k_some, k_more) = margin (along t e p) in
      let (l, l_some, l_more) = margin (along t e q) in
      let (m, m_some, m_more) = margin (along t e r) in
      let n = pos 1 +ℤ k +ℤ l +ℤ m in
      let some : pos 0 <ℤ n = omega (arith, ints) in
      record {
        n = behind t e (s n);
        first = far n p some (omega (arith, ints)) first;
        second = far n q some (omega (arith, ints)) second;
        third = far n r some (omega (arith, ints)) third;
      }

  pub ahead_of_ray : (p q r : Point) → IsRightOn t e p → IsRightOn t e q → IsRightOn t e r → AreAhead t p q r
  ahead_of_ray = all_ahead (IsRightOn t e) (λ n. n) ahead_from

  pub ahead_of_left : (p q r : Point) → IsLeftOn t e p → IsLeftOn t e q → IsLeftOn t e r → AreAhead t p q r
  ahead_of_left = all_ahead (IsLeftOn t e) neg_ℤ ahead_from_left
