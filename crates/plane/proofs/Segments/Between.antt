-- The order of the points along a segment: which of them is nearer to the first end.
-- Two points of a segment: the one is between the first end and the other, or between the other and the last end.
use Rattle.std.proofs.Common.{◌≡◌, ◌⊎◌, inl, inr, [], ◌∷◌, refl, sym, ap, ◌∙◌, ℤ, pos, ◌+ℤ◌, ◌-ℤ◌, ◌*ℤ◌, ◌<ℤ◌, ◌≤ℤ◌, arith}
use Rattle.std.proofs.lemmas.Int.{ints}
use Rattle.integer_algebra.proofs.Certificate.{◌⊠◌, ◌⊞⁺◌, ◌⊠⁺◌}
use Rattle.integer_algebra.proofs.Laws.{mul_assoc, mul_comm, mul_left_comm, zero-mul}
use Rattle.integer_algebra.proofs.Polynomial.{var, ◌⊕◌, ◌⊖◌, ◌⊗◌, same_value}
use Rattle.integer_algebra.proofs.SignSteps.{not_both, weak, weak_order}
use Rattle.integer_algebra.proofs.Signs.{cancel_equal, is_negative, is_positive, is_zero, lt_or_le, mul_nonnegative, mul_nonpositive}
use Rattle.integer_algebra.proofs.Signs.{mul_positive, sign}
use Rattle.plane.proofs.Points.{same_sym, same_trans, same_whole, whole_is_point}
use Rattle.plane.proofs.Segments.Combinations.{combination_of_same, on_nested, same_without_first, same_without_last}
use Rattle.plane.proofs.Segments.Segments.{on_first_end, on_same_point}
use Rattle.plane.proofs.Turns.{IsCombination, combination_of, on_of_combination, weights_positive}
use Rattle.plane.specs.Prelude.{IsPoint, IsSame, On, Point, Triple, whole}

-- ---- one point is between the first end and the other

-- one coordinate: k p = l y + m t and i q = u y + v t
nearer : (k l m i u v p q y t : ℤ) → k *ℤ p ≡ l *ℤ y +ℤ m *ℤ t → i *ℤ q ≡ u *ℤ y +ℤ v *ℤ t
    → (v *ℤ k) *ℤ p ≡ (v *ℤ l -ℤ m *ℤ u) *ℤ y +ℤ (m *ℤ i) *ℤ q
nearer k l m i u v p q y t ep eq =
    mul_assoc v k p ∙ ap (λ z. v *ℤ z) ep
    ∙ same_value (var 3 ⊗ (var 0 ⊗ var 4 ⊕ var 1 ⊗ var 5))
    ((var 3 ⊗ var 0 ⊖ var 1 ⊗ var 2) ⊗ var 4 ⊕ var 1 ⊗ (var 2 ⊗ var 4 ⊕ var 3 ⊗ var 5)) (l ∷ m ∷ u ∷ v ∷ y ∷ t ∷ []) refl
    ∙ ap (λ z. (v *ℤ l -ℤ m *ℤ u) *ℤ y +ℤ m *ℤ z) (sym eq)
    ∙ ap (λ z. (v *ℤ l -ℤ m *ℤ u) *ℤ y +ℤ z) (sym (mul_assoc m i q))

-- a greater number less a smaller one is not negative
not_negative_difference : {x z : ℤ} → x ≤ℤ z → pos 0 ≤ℤ (z -ℤ x)
not_negative_difference h = omega (arith, ints)

-- where the last end weighs less in p than in q
combination_nearer : (p q y t : Triple) (c : IsCombination p y t) (d : IsCombination q y t) → pos 0 <ℤ d.m
    → (c.m *ℤ d.l) ≤ℤ (d.m *ℤ c.l) → IsCombination p y q
combination_nearer p q y t c d some h = record {
  k = d.m *ℤ c.k;
  l = d.m *ℤ c.l -ℤ c.m *ℤ d.l;
  m = c.m *ℤ d.k;
  k_positive = mul_positive _ _ some c.k_positive;
  l_nonnegative = not_negative_difference h;
  m_nonnegative = mul_nonnegative _ _ c.m_nonnegative (weak d.k_positive);
  in_X = nearer c.k c.l c.m d.k d.l d.m p.X q.X y.X t.X c.in_X d.in_X;
  in_Y = nearer c.k c.l c.m d.k d.l d.m p.Y q.Y y.Y t.Y c.in_Y d.in_Y;
  in_W = nearer c.k c.l c.m d.k d.l d.m p.W q.W y.W t.W c.in_W d.in_W;
}

-- a number whose product is greater than another is positive
some_positive : (v k m l : ℤ) → pos 0 ≤ℤ v → pos 0 ≤ℤ k → pos 0 ≤ℤ l → (v *ℤ k) <ℤ (m *ℤ l) → pos 0 <ℤ m
some_positive v k m l hv hk hl h = elim (lt_or_le (pos 0) m) [
  | inl n ↦ n
  | inr n ↦ absurd (omega (arith, ints, mul_nonnegative v k hv hk, mul_nonpositive l m hl n, mul_comm l m))
]

-- a weight is 0 where its share is no greater than that of a weight 0
none_left : (l m u v : ℤ) → v ≡ pos 0 → pos 0 <ℤ (u +ℤ v) → pos 0 ≤ℤ m → (m *ℤ u) ≤ℤ (v *ℤ l) → m ≡ pos 0
none_left l m u v ev some hm h = elim (sign m) [
  | is_negative n ↦ absurd (not_both n hm)
  | is_zero n ↦ n
  | is_positive n ↦ absurd (omega (arith, ints, mul_positive m u n (omega (arith, ints)), ap (λ z. z *ℤ l) ev, zero-mul l))
]

-- of two points on a segment one is between the first end and the other
pub on_total : (p q y t : Triple) → IsPoint p → IsPoint q → IsPoint y → IsPoint t → On p y t → On q y t → On p y q ⊎ On q y p
on_total p q y t at_p at_q at_y at_t on_p on_q =
    let c = combination_of p y t at_p at_y at_t on_p in
    let d = combination_of q y t at_q at_y at_t on_q in
    elim (lt_or_le (d.m *ℤ c.l) (c.m *ℤ d.l)) [
      | inl h ↦
          let some = some_positive d.m c.l c.m d.l d.m_nonnegative c.l_nonnegative d.l_nonnegative h in
          inr (on_of_combination q y p at_q at_y at_p (combination_nearer q p y t d c some (weak_order h)))
      | inr h ↦ elim (sign d.m) [
        | is_positive some ↦ inl (on_of_combination p y q at_p at_y at_q (combination_nearer p q y t c d some h))
        | is_zero none ↦
            let no_weight = none_left c.l c.m d.l d.m none (weights_positive q y t d at_q) c.m_nonnegative h in
            inl (on_same_point at_y (same_sym (same_without_last p y t c no_weight)) (on_first_end y q))
        | is_negative n ↦ absurd (not_both n d.m_nonnegative)
      ]
    ]

-- ---- each of two points is between the first end and the other

-- one coordinate: k p = l y + m q and i q = u y + v p
round : (k l m i u v p q y : ℤ) → k *ℤ p ≡ l *ℤ y +ℤ m *ℤ q → i *ℤ q ≡ u *ℤ y +ℤ v *ℤ p
    → (k *ℤ i -ℤ v *ℤ m) *ℤ q ≡ (k *ℤ u +ℤ v *ℤ l) *ℤ y
round k l m i u v p q y ep eq =
    let xs = k ∷ l ∷ m ∷ i ∷ u ∷ v ∷ p ∷ q ∷ y ∷ [] in
    let less = (var 5 ⊗ var 2) ⊗ var 7 in
    same_value ((var 0 ⊗ var 3 ⊖ var 5 ⊗ var 2) ⊗ var 7) (var 0 ⊗ (var 3 ⊗ var 7) ⊖ less) xs refl
    ∙ ap (λ z. k *ℤ z -ℤ (v *ℤ m) *ℤ q) eq
    ∙ same_value (var 0 ⊗ (var 4 ⊗ var 8 ⊕ var 5 ⊗ var 6) ⊖ less)
    (var 0 ⊗ (var 4 ⊗ var 8) ⊕ var 5 ⊗ (var 0 ⊗ var 6) ⊖ less) xs refl
    ∙ ap (λ z. k *ℤ (u *ℤ y) +ℤ v *ℤ z -ℤ (v *ℤ m) *ℤ q) ep
    ∙ same_value (var 0 ⊗ (var 4 ⊗ var 8) ⊕ var 5 ⊗ (var 1 ⊗ var 8 ⊕ var 2 ⊗ var 7) ⊖ less)
    ((var 0 ⊗ var 4 ⊕ var 5 ⊗ var 1) ⊗ var 8) xs refl

-- one coordinate of points of which one is a multiple of the other
same_ratio : (m n x w u v : ℤ) → pos 0 <ℤ n → m *ℤ x ≡ n *ℤ u → m *ℤ w ≡ n *ℤ v → x *ℤ v ≡ u *ℤ w
same_ratio m n x w u v hn ex ew =
    cancel_equal (x *ℤ v) (u *ℤ w) n hn
    (mul_left_comm n x v ∙ ap (λ z. x *ℤ z) (sym ew)
    ∙ same_value (var 1 ⊗ (var 0 ⊗ var 2)) ((var 0 ⊗ var 1) ⊗ var 2) (m ∷ x ∷ w ∷ []) refl
    ∙ ap (λ z. z *ℤ w) ex ∙ mul_assoc n u w)

module _ (p q y : Triple) (at_p : IsPoint p) (at_q : IsPoint q) (at_y : IsPoint y) where
  -- then all three are the same, where the first end has weight in the second point
  all_same : (c : IsCombination p y q) (d : IsCombination q y p) → pos 0 <ℤ d.l → IsSame p q
  all_same c d some =
      let n = (c.k_positive ⊠⁺ some) ⊞⁺ (d.m_nonnegative ⊠ c.l_nonnegative) in
      let coordinate = round c.k c.l c.m d.k d.l d.m in
      let weight = coordinate p.W q.W y.W c.in_W d.in_W in
      let same : IsSame q y = record {
        same_x = same_ratio _ _ q.X q.W y.X y.W n (coordinate p.X q.X y.X c.in_X d.in_X) weight;
        same_y = same_ratio _ _ q.Y q.W y.Y y.W n (coordinate p.Y q.Y y.Y c.in_Y d.in_Y) weight;
      } in
      same_trans at_y (combination_of_same p y q same c) (same_sym same)

  -- and the two points are in any case
  pub on_antisym : On p y q → On q y p → IsSame p q
  on_antisym on_p on_q =
      let c = combination_of p y q at_p at_y at_q on_p in
      let d = combination_of q y p at_q at_y at_p on_q in
      elim (sign d.l) [
        | is_positive some ↦ all_same c d some
        | is_zero none ↦ same_sym (same_without_first q y p d none)
        | is_negative n ↦ absurd (not_both n d.l_nonnegative)
      ]

-- ---- points nearer to v than others

-- two points, each nearer to v than the other, are one
pub nearer_each : (v p q : Point) → On (whole p) (whole v) (whole q) → On (whole q) (whole v) (whole p) → p ≡ q
nearer_each v p q on back =
    same_whole p q (on_antisym (whole p) (whole q) (whole v) (whole_is_point p) (whole_is_point q) (whole_is_point v) on back)

-- from nearer to nearer
pub nearer_on : (v p q r : Point) → On (whole p) (whole v) (whole q) → On (whole q) (whole v) (whole r) → On (whole p) (whole v) (whole r)
nearer_on v p q r first last =
    on_nested (whole p) (whole v) (whole q) (whole v) (whole r) (whole_is_point p) (whole_is_point v) (whole_is_point q) (whole_is_point v)
    (whole_is_point r) (on_first_end (whole v) (whole r)) last first

-- one coordinate: k m = l x + n y and i y = u x + v q
later : (k l n i u v m x y q : ℤ) → k *ℤ m ≡ l *ℤ x +ℤ n *ℤ y → i *ℤ y ≡ u *ℤ x +ℤ v *ℤ q
    → (i *ℤ l +ℤ u *ℤ n) *ℤ y ≡ (u *ℤ k) *ℤ m +ℤ (l *ℤ v) *ℤ q
later k l n i u v m x y q em ey =
    let xs = k ∷ l ∷ n ∷ i ∷ u ∷ v ∷ m ∷ x ∷ y ∷ q ∷ [] in
    same_value ((var 3 ⊗ var 1 ⊕ var 4 ⊗ var 2) ⊗ var 8) (var 1 ⊗ (var 3 ⊗ var 8) ⊕ (var 4 ⊗ var 2) ⊗ var 8) xs refl
    ∙ ap (λ z. l *ℤ z +ℤ (u *ℤ n) *ℤ y) ey
    ∙ same_value (var 1 ⊗ (var 4 ⊗ var 7 ⊕ var 5 ⊗ var 9) ⊕ (var 4 ⊗ var 2) ⊗ var 8)
    (var 4 ⊗ (var 1 ⊗ var 7 ⊕ var 2 ⊗ var 8) ⊕ (var 1 ⊗ var 5) ⊗ var 9) xs refl
    ∙ ap (λ z. u *ℤ z +ℤ (l *ℤ v) *ℤ q) (sym em)
    ∙ same_value (var 4 ⊗ (var 0 ⊗ var 6) ⊕ (var 1 ⊗ var 5) ⊗ var 9) ((var 4 ⊗ var 0) ⊗ var 6 ⊕ (var 1 ⊗ var 5) ⊗ var 9) xs refl

module _ (m x y q : Triple) (at_m : IsPoint m) (at_x : IsPoint x) (at_y : IsPoint y) (at_q : IsPoint q) where
  -- a point beyond one between the first end and it is between that one and the last end
  pub later_between : On m x y → On y x q → On y m q
  later_between on_m on_y =
      let c = combination_of m x y at_m at_x at_y on_m in
      let d = combination_of y x q at_y at_x at_q on_y in
      elim (sign c.l) [
        | is_positive some ↦ on_of_combination y m q at_y at_m at_q (record {
          k = d.k *ℤ c.l +ℤ d.l *ℤ c.m;
          l = d.l *ℤ c.k;
          m = c.l *ℤ d.m;
          k_positive = (d.k_positive ⊠⁺ some) ⊞⁺ (d.l_nonnegative ⊠ c.m_nonnegative);
          l_nonnegative = mul_nonnegative _ _ d.l_nonnegative (weak c.k_positive);
          m_nonnegative = mul_nonnegative _ _ c.l_nonnegative d.m_nonnegative;
          in_X = later c.k c.l c.m d.k d.l d.m m.X x.X y.X q.X c.in_X d.in_X;
          in_Y = later c.k c.l c.m d.k d.l d.m m.Y x.Y y.Y q.Y c.in_Y d.in_Y;
          in_W = later c.k c.l c.m d.k d.l d.m m.W x.W y.W q.W c.in_W d.in_W;
        })
        | is_zero none ↦ on_same_point at_m (same_without_first m x y c none) (on_first_end m q)
        | is_negative n ↦ absurd (not_both n c.l_nonnegative)
      ]

-- a point of a segment is on the one side or the other of another
pub on_one_side : (y m x q : Triple) → IsPoint y → IsPoint m → IsPoint x → IsPoint q → On y x q → On m x q → On y x m ⊎ On y m q
on_one_side y m x q at_y at_m at_x at_q on_y on_m = elim (on_total y m x q at_y at_m at_x at_q on_y on_m) [
  | inl before ↦ inl before
  | inr after ↦ inr (later_between m x y q at_m at_x at_y at_q after on_y)
]
