-- Ways of lines, and of sides from corner to corner: which go up, and how they turn.
use Rattle.std.proofs.Common.{◌≡◌, ◌≢◌, inl, inr, [], ◌∷◌, refl, sym, subst, ap, ◌∙◌, ℤ, pos, ◌+ℤ◌, ◌-ℤ◌, ◌*ℤ◌, ◌<ℤ◌, ◌≤ℤ◌, arith}
use Rattle.std.proofs.lemmas.Int.{ints}
use Rattle.integer_algebra.proofs.Laws.{mul-zero, zero-mul}
use Rattle.integer_algebra.proofs.Polynomial.{Polynomial, var, lit, ◌⊕◌, ◌⊖◌, ◌⊗◌, same_value}
use Rattle.integer_algebra.proofs.SignSteps.{not_both, positive_not_zero, positive_of_not_zero, weak, zero_not_negative}
use Rattle.integer_algebra.proofs.Signs.{factor_positive, factor_zero, is_negative, is_positive, is_zero, mul_negative, mul_nonnegative, mul_positive, sign}
use Rattle.integer_algebra.proofs.Weights.{Forward, not_to_the_left}
use Rattle.plane.proofs.Order.{same_coordinates}
use Rattle.plane.proofs.Turns.{written_determinant}
use Rattle.plane.specs.Line.{cross_product}
use Rattle.plane.specs.Order.{IsBefore, Precedes}
use Rattle.plane.specs.Point.{IsPoint, Point, Triple, whole}
use Rattle.plane.specs.Turn.{IsRight, IsStraight, determinant}

-- ---- up: to the right, or straight upward

-- a way does not go up turned round
pub not_both_up : (x y u v : ℤ) → Forward x y → Forward u v → x +ℤ u ≡ pos 0 → y +ℤ v ≡ pos 0 → ⊥
not_both_up x y u v (inl h) (inl k) e f = omega (arith, ints, h, k, e)
not_both_up x y u v (inl h) (inr k) e f = let k0 = k.0 in omega (arith, ints, h, k0, e)
not_both_up x y u v (inr h) (inl k) e f = let h0 = h.0 in omega (arith, ints, h0, k, e)
not_both_up x y u v (inr h) (inr k) e f = let h1 = h.1 in let k1 = k.1 in omega (arith, ints, h1, k1, f)

-- with equal parts it does too
same_up : {x y u v : ℤ} → x ≡ u → y ≡ v → Forward x y → Forward u v
same_up e f h = subst (λ t. t) (λ i. Forward (e i) (f i)) h

-- a sum of multiples of two such ways
up_sum : (k l x y u v : ℤ) → pos 0 <ℤ k → pos 0 ≤ℤ l → Forward x y → Forward u v → Forward (k *ℤ x +ℤ l *ℤ u) (k *ℤ y +ℤ l *ℤ v)
up_sum k l x y u v hk hl (inl h) g =
    inl (let some = mul_positive k x hk h in let more = mul_nonnegative l u hl (not_to_the_left u v g) in omega (arith, ints, some, more))
up_sum k l x y u v hk hl (inr h) g =
    let none : k *ℤ x ≡ pos 0 = ap (λ t. k *ℤ t) h.0 ∙ mul-zero k in
    let some = mul_positive k y hk h.1 in
    elim (sign l) [
      | is_negative n ↦ absurd (not_both n hl)
      | is_zero e ↦
          let first : l *ℤ u ≡ pos 0 = ap (λ t. t *ℤ u) e ∙ zero-mul u in
          let second : l *ℤ v ≡ pos 0 = ap (λ t. t *ℤ v) e ∙ zero-mul v in
          inr (omega (arith, ints, none, first), omega (arith, ints, some, second))
      | is_positive n ↦ elim g [
        | inl r ↦ inl (let more = mul_positive l u n r in omega (arith, ints, none, more))
        | inr r ↦
            let first : l *ℤ u ≡ pos 0 = ap (λ t. l *ℤ t) r.0 ∙ mul-zero l in
            let second = mul_positive l v n r.1 in
            inr (omega (arith, ints, none, first), omega (arith, ints, some, second))
      ]
    ]

-- a way of which a multiple does
up_factor : (k x y : ℤ) → pos 0 ≤ℤ k → Forward (k *ℤ x) (k *ℤ y) → Forward x y
up_factor k x y hk h = elim (sign k) [
  | is_negative n ↦ absurd (not_both n hk)
  | is_zero e ↦
      let first : k *ℤ x ≡ pos 0 = ap (λ t. t *ℤ x) e ∙ zero-mul x in
      let second : k *ℤ y ≡ pos 0 = ap (λ t. t *ℤ y) e ∙ zero-mul y in
      elim h [
        | inl g ↦ absurd (omega (arith, ints, g, first))
        | inr g ↦ absurd (let g1 = g.1 in omega (arith, ints, g1, second))
      ]
  | is_positive n ↦ elim h [
    | inl g ↦ inl (factor_positive k x n g)
    | inr g ↦ inr (factor_zero k x (positive_not_zero n) g.0, factor_positive k y n g.1)
  ]
]

-- ---- sums of multiples

-- what is taken away on one side
moved_over : (k m n x u s : ℤ) → k *ℤ x ≡ m *ℤ u +ℤ n *ℤ s → k *ℤ x +ℤ (pos 0 -ℤ m) *ℤ u ≡ n *ℤ s
moved_over k m n x u s e =
    let minus : (pos 0 -ℤ m) *ℤ u ≡ pos 0 -ℤ m *ℤ u = same_value ((lit (pos 0) ⊖ var 0) ⊗ var 1) (lit (pos 0) ⊖ var 0 ⊗ var 1) (m ∷ u ∷ []) refl in
    omega (arith, ints, e, minus)

-- the other way round
turned_round : (k l a b u v : ℤ) → k *ℤ (b -ℤ a) ≡ l *ℤ (v -ℤ u) → k *ℤ (a -ℤ b) ≡ l *ℤ (u -ℤ v)
turned_round k l a b u v e = back k a b ∙ ap (λ t. pos 0 -ℤ t) e ∙ sym (back l u v)
  where
    back : (k a b : ℤ) → k *ℤ (a -ℤ b) ≡ pos 0 -ℤ k *ℤ (b -ℤ a)
    back k a b = same_value (var 0 ⊗ (var 1 ⊖ var 2)) (lit (pos 0) ⊖ var 0 ⊗ (var 2 ⊖ var 1)) (k ∷ a ∷ b ∷ []) refl

-- both signs changed
both_signs : (f g a b c d : ℤ) → (pos 0 -ℤ f) *ℤ (b -ℤ a) +ℤ g *ℤ (d -ℤ c) ≡ (pos 0 -ℤ g) *ℤ (c -ℤ d) +ℤ f *ℤ (a -ℤ b)
both_signs f g a b c d =
    same_value ((lit (pos 0) ⊖ var 0) ⊗ (var 3 ⊖ var 2) ⊕ var 1 ⊗ (var 5 ⊖ var 4))
    ((lit (pos 0) ⊖ var 1) ⊗ (var 4 ⊖ var 5) ⊕ var 0 ⊗ (var 2 ⊖ var 3)) (f ∷ g ∷ a ∷ b ∷ c ∷ d ∷ []) refl

-- all on one side
on_one_side : (k f g x y a b w : ℤ) → k *ℤ (x -ℤ y) ≡ (pos 0 -ℤ f) *ℤ (b -ℤ a) +ℤ g *ℤ w → k *ℤ (y -ℤ x) +ℤ f *ℤ (a -ℤ b) +ℤ g *ℤ w ≡ pos 0
on_one_side k f g x y a b w e =
    let whole =
    same_value (var 0 ⊗ (var 4 ⊖ var 3) ⊕ var 1 ⊗ (var 5 ⊖ var 6) ⊕ var 2 ⊗ var 7)
    (((lit (pos 0) ⊖ var 1) ⊗ (var 6 ⊖ var 5) ⊕ var 2 ⊗ var 7) ⊖ var 0 ⊗ (var 3 ⊖ var 4)) (k ∷ f ∷ g ∷ x ∷ y ∷ a ∷ b ∷ w ∷ []) refl in
    whole ∙ zero_of_equal _ _ e
  where
    zero_of_equal : (u v : ℤ) → u ≡ v → v -ℤ u ≡ pos 0
    zero_of_equal u v e = omega (arith, ints, e)

-- where a multiple is a sum of multiples
up_mean : (k m n x y u v s t : ℤ) → pos 0 <ℤ k → pos 0 <ℤ m → pos 0 ≤ℤ n → Forward u v → Forward s t → k *ℤ x ≡ m *ℤ u +ℤ n *ℤ s
    → k *ℤ y ≡ m *ℤ v +ℤ n *ℤ t → Forward x y
up_mean k m n x y u v s t hk hm hn up too ex ey =
    up_factor k x y (weak hk) (same_up (sym ex) (sym ey) (up_sum m n u v s t hm hn up too))

-- and the other way round, where one weight is negative
pub up_other : (k m n x y u v s t : ℤ) → pos 0 <ℤ k → m <ℤ pos 0 → pos 0 ≤ℤ n → Forward x y → Forward u v → k *ℤ x ≡ m *ℤ u +ℤ n *ℤ s
    → k *ℤ y ≡ m *ℤ v +ℤ n *ℤ t → Forward s t
up_other k m n x y u v s t hk hm hn up too ex ey =
    let minus : pos 0 ≤ℤ (pos 0 -ℤ m) = omega (arith, ints, hm) in
    up_factor n s t hn (same_up (moved_over k m n x u s ex) (moved_over k m n y v t ey) (up_sum k (pos 0 -ℤ m) x y u v hk minus up too))

-- no three of them balance
no_balance : (k m n x y u v s t : ℤ) → pos 0 <ℤ k → pos 0 ≤ℤ m → pos 0 ≤ℤ n → Forward x y → Forward u v → Forward s t
    → k *ℤ x +ℤ m *ℤ u +ℤ n *ℤ s ≡ pos 0 → k *ℤ y +ℤ m *ℤ v +ℤ n *ℤ t ≡ pos 0 → ⊥
no_balance k m n x y u v s t hk hm hn one two three ex ey =
    let sum = up_sum (pos 1) n (k *ℤ x +ℤ m *ℤ u) (k *ℤ y +ℤ m *ℤ v) s t (omega (arith, ints)) hn (up_sum k m x y u v hk hm one two) three in
    elim sum [
      | inl h ↦ omega (arith, ints, h, ex)
      | inr h ↦ let h1 = h.1 in omega (arith, ints, h1, ey)
    ]

-- ---- three vectors

module _ (ux uy ox oy dx dy : ℤ) where
  -- a vector by two others: one coordinate,
  pub by_two_in_x : (ux *ℤ oy -ℤ uy *ℤ ox) *ℤ dx ≡ (dx *ℤ oy -ℤ dy *ℤ ox) *ℤ ux +ℤ (ux *ℤ dy -ℤ uy *ℤ dx) *ℤ ox
  by_two_in_x =
      same_value ((var 0 ⊗ var 3 ⊖ var 1 ⊗ var 2) ⊗ var 4)
      ((var 4 ⊗ var 3 ⊖ var 5 ⊗ var 2) ⊗ var 0 ⊕ (var 0 ⊗ var 5 ⊖ var 1 ⊗ var 4) ⊗ var 2)
      (ux ∷ uy ∷ ox ∷ oy ∷ dx ∷ dy ∷ []) refl

  -- and the other
  pub by_two_in_y : (ux *ℤ oy -ℤ uy *ℤ ox) *ℤ dy ≡ (dx *ℤ oy -ℤ dy *ℤ ox) *ℤ uy +ℤ (ux *ℤ dy -ℤ uy *ℤ dx) *ℤ oy
  by_two_in_y =
      same_value ((var 0 ⊗ var 3 ⊖ var 1 ⊗ var 2) ⊗ var 5)
      ((var 4 ⊗ var 3 ⊖ var 5 ⊗ var 2) ⊗ var 1 ⊕ (var 0 ⊗ var 5 ⊖ var 1 ⊗ var 4) ⊗ var 3)
      (ux ∷ uy ∷ ox ∷ oy ∷ dx ∷ dy ∷ []) refl

-- ---- ways of points

pub up_of_before : (p q : Point) → IsBefore p q → Forward (q.x -ℤ p.x) (q.y -ℤ p.y)
up_of_before p q (inl h) = inl (omega (arith, ints, h))
up_of_before p q (inr h) = let e = h.0 in let k = h.1 in inr (omega (arith, ints, e), omega (arith, ints, k))

pub up_of_precedes : (c z : Triple) → Precedes c z → Forward (z.X *ℤ c.W -ℤ c.X *ℤ z.W) (z.Y *ℤ c.W -ℤ c.Y *ℤ z.W)
up_of_precedes c z (inl h) = inl (omega (arith, ints, h))
up_of_precedes c z (inr h) = let e = h.0 in let k = h.1 in inr (omega (arith, ints, e), omega (arith, ints, k))

pub precedes_of_up : (c z : Triple) → Forward (z.X *ℤ c.W -ℤ c.X *ℤ z.W) (z.Y *ℤ c.W -ℤ c.Y *ℤ z.W) → Precedes c z
precedes_of_up c z (inl h) = inl (omega (arith, ints, h))
precedes_of_up c z (inr h) = let e = h.0 in let k = h.1 in inr (omega (arith, ints, e), omega (arith, ints, k))

-- ---- how much farther to the left of a line one point is than another

-- polynomials over the coordinates of a and b, and the parts of z and c: the weight of a whole point,
one : Polynomial
one = lit (pos 1)

-- how far z is from the line a b, and how far c is,
of_z : Polynomial
unfolding one
of_z = written_determinant (var 0) (var 1) one (var 2) (var 3) one (var 4) (var 5) (var 6)

of_c : Polynomial
unfolding one
of_c = written_determinant (var 0) (var 1) one (var 2) (var 3) one (var 7) (var 8) (var 9)

-- by their weights
unfoldable pub farther : Point → Point → Triple → Triple → ℤ
farther a b c z = determinant (whole a) (whole b) z *ℤ c.W -ℤ determinant (whole a) (whole b) c *ℤ z.W

-- it is the cross product of the two ways
pub farther_is : (a b : Point) (c z : Triple) → farther a b c z ≡
    (b.x -ℤ a.x) *ℤ (z.Y *ℤ c.W -ℤ c.Y *ℤ z.W) -ℤ (b.y -ℤ a.y) *ℤ (z.X *ℤ c.W -ℤ c.X *ℤ z.W)
unfolding farther one of_z of_c
farther_is a b c z =
    same_value (of_z ⊗ var 9 ⊖ of_c ⊗ var 6)
    ((var 2 ⊖ var 0) ⊗ (var 5 ⊗ var 9 ⊖ var 8 ⊗ var 6) ⊖ (var 3 ⊖ var 1) ⊗ (var 4 ⊗ var 9 ⊖ var 7 ⊗ var 6))
    (a.x ∷ a.y ∷ b.x ∷ b.y ∷ z.X ∷ z.Y ∷ z.W ∷ c.X ∷ c.Y ∷ c.W ∷ []) refl

module _ (p q : Point) (c z : Triple) where
  -- a point that is not right of a line is no farther to the right than one that is on it
  pub farther_from_line : IsPoint c → IsStraight (whole p) (whole q) c → pos 0 ≤ℤ determinant (whole p) (whole q) z → pos 0 ≤ℤ farther p q c z
  unfolding farther
  farther_from_line at_c on left =
      let first = mul_nonnegative (determinant (whole p) (whole q) z) c.W left (weak at_c) in
      let second = ap (λ d. d *ℤ z.W) on ∙ zero-mul z.W in
      omega (arith, ints, first, second)

  -- two that are on it are equally far
  pub as_far : IsStraight (whole p) (whole q) c → IsStraight (whole p) (whole q) z → farther p q c z ≡ pos 0
  unfolding farther
  as_far on_c on_z =
      let first = ap (λ d. d *ℤ c.W) on_z ∙ zero-mul c.W in
      let second = ap (λ d. d *ℤ z.W) on_c ∙ zero-mul z.W in
      omega (arith, ints, first, second)

  -- one that is not right of a line is farther to the left than one that is
  pub farther_across : IsPoint c → IsPoint z → IsRight (whole p) (whole q) c → pos 0 ≤ℤ determinant (whole p) (whole q) z
      → pos 0 <ℤ farther p q c z
  unfolding farther
  farther_across at_c at_z right left =
      let first = mul_nonnegative (determinant (whole p) (whole q) z) c.W left (weak at_c) in
      let second = mul_negative z.W (determinant (whole p) (whole q) c) at_z right in
      omega (arith, ints, first, second)

-- and the other way round
pub nearer_across : (p q : Point) (c z : Triple) → IsPoint c → IsPoint z → pos 0 ≤ℤ determinant (whole p) (whole q) c
    → IsRight (whole p) (whole q) z → farther p q c z <ℤ pos 0
unfolding farther
nearer_across p q c z at_c at_z left right = let far = farther_across p q z c at_z at_c right left in omega (arith, ints, far)

-- ---- along a line

-- the turn at c by the ways from there
turn_by_ways : (c z y : Triple) →
    (z.X *ℤ c.W -ℤ c.X *ℤ z.W) *ℤ (y.Y *ℤ c.W -ℤ c.Y *ℤ y.W) -ℤ (z.Y *ℤ c.W -ℤ c.Y *ℤ z.W) *ℤ (y.X *ℤ c.W -ℤ c.X *ℤ y.W) ≡
    c.W *ℤ determinant c z y
turn_by_ways c z y =
    same_value
    ((var 3 ⊗ var 2 ⊖ var 0 ⊗ var 5) ⊗ (var 7 ⊗ var 2 ⊖ var 1 ⊗ var 8) ⊖ (var 4 ⊗ var 2 ⊖ var 1 ⊗ var 5) ⊗ (var 6 ⊗ var 2 ⊖ var 0 ⊗ var 8))
    (var 2 ⊗ written_determinant (var 0) (var 1) (var 2) (var 3) (var 4) (var 5) (var 6) (var 7) (var 8))
    (c.X ∷ c.Y ∷ c.W ∷ z.X ∷ z.Y ∷ z.W ∷ y.X ∷ y.Y ∷ y.W ∷ []) refl

-- the turn from one side to the next
turn_of_sides : (y c z : Triple) →
    (c.X *ℤ y.W -ℤ y.X *ℤ c.W) *ℤ (z.Y *ℤ c.W -ℤ c.Y *ℤ z.W) -ℤ (c.Y *ℤ y.W -ℤ y.Y *ℤ c.W) *ℤ (z.X *ℤ c.W -ℤ c.X *ℤ z.W) ≡
    c.W *ℤ determinant y c z
turn_of_sides y c z =
    same_value
    ((var 0 ⊗ var 8 ⊖ var 6 ⊗ var 2) ⊗ (var 4 ⊗ var 2 ⊖ var 1 ⊗ var 5) ⊖ (var 1 ⊗ var 8 ⊖ var 7 ⊗ var 2) ⊗ (var 3 ⊗ var 2 ⊖ var 0 ⊗ var 5))
    (var 2 ⊗ written_determinant (var 6) (var 7) (var 8) (var 0) (var 1) (var 2) (var 3) (var 4) (var 5))
    (c.X ∷ c.Y ∷ c.W ∷ z.X ∷ z.Y ∷ z.W ∷ y.X ∷ y.Y ∷ y.W ∷ []) refl

-- the way from p to q is that from c to z, but for their lengths
pub record IsAlong (p q : Point) (c z : Triple) : Type 0 where
  pub k : ℤ
  pub l : ℤ
  pub k_positive : pos 0 <ℤ k
  pub l_positive : pos 0 <ℤ l
  pub in_x : k *ℤ (q.x -ℤ p.x) ≡ l *ℤ (z.X *ℤ c.W -ℤ c.X *ℤ z.W)
  pub in_y : k *ℤ (q.y -ℤ p.y) ≡ l *ℤ (z.Y *ℤ c.W -ℤ c.Y *ℤ z.W)

-- a sum without a part that is nothing
without : (x y d w : ℤ) → d ≡ pos 0 → x ≡ y +ℤ d *ℤ w → x ≡ y
without x y d w none e = let gone : d *ℤ w ≡ pos 0 = ap (λ t. t *ℤ w) none ∙ zero-mul w in omega (arith, ints, e, gone)

-- a multiple of a way that goes up does
up_multiple : (k x y : ℤ) → pos 0 <ℤ k → Forward x y → Forward (k *ℤ x) (k *ℤ y)
up_multiple k x y some (inl h) = inl (mul_positive k x some h)
up_multiple k x y some (inr h) = inr (ap (λ t. k *ℤ t) h.0 ∙ mul-zero k, mul_positive k y some h.1)

-- a multiple of a turn is the turn of a multiple
spread : (k ux uy ox oy : ℤ) → k *ℤ (ux *ℤ oy -ℤ uy *ℤ ox) ≡ (k *ℤ ux) *ℤ oy -ℤ (k *ℤ uy) *ℤ ox
spread k ux uy ox oy =
    same_value (var 0 ⊗ (var 1 ⊗ var 4 ⊖ var 2 ⊗ var 3)) ((var 0 ⊗ var 1) ⊗ var 4 ⊖ (var 0 ⊗ var 2) ⊗ var 3)
    (k ∷ ux ∷ uy ∷ ox ∷ oy ∷ []) refl

-- it is so where both points are on the line, and a third is to the left of them and not right of it
module _ (p q : Point) (c z y : Triple) (at_c : IsPoint c) (differ : p ≢ q) (on_c : IsStraight (whole p) (whole q) c)
    (on_z : IsStraight (whole p) (whole q) z)
    (left : pos 0 <ℤ determinant c z y)
    (beside : pos 0 ≤ℤ determinant (whole p) (whole q) y) where
  abbrev ux : ℤ
  ux = q.x -ℤ p.x

  abbrev uy : ℤ
  uy = q.y -ℤ p.y

  abbrev vx : ℤ
  vx = z.X *ℤ c.W -ℤ c.X *ℤ z.W

  abbrev vy : ℤ
  vy = z.Y *ℤ c.W -ℤ c.Y *ℤ z.W

  abbrev wx : ℤ
  wx = y.X *ℤ c.W -ℤ c.X *ℤ y.W

  abbrev wy : ℤ
  wy = y.Y *ℤ c.W -ℤ c.Y *ℤ y.W

  turn : pos 0 <ℤ (vx *ℤ wy -ℤ vy *ℤ wx)
  turn = subst (λ t. pos 0 <ℤ t) (sym (turn_by_ways c z y)) (mul_positive c.W (determinant c z y) at_c left)

  across : pos 0 ≤ℤ (ux *ℤ wy -ℤ uy *ℤ wx)
  across = subst (λ t. pos 0 ≤ℤ t) (farther_is p q c y) (farther_from_line p q c y at_c on_c beside)

  parallel : vx *ℤ uy -ℤ vy *ℤ ux ≡ pos 0
  parallel = omega (arith, ints, sym (farther_is p q c z) ∙ as_far p q c z on_c on_z)

  multiple_in_x : (vx *ℤ wy -ℤ vy *ℤ wx) *ℤ ux ≡ (ux *ℤ wy -ℤ uy *ℤ wx) *ℤ vx
  multiple_in_x = without _ _ _ _ parallel (by_two_in_x vx vy wx wy ux uy)

  multiple_in_y : (vx *ℤ wy -ℤ vy *ℤ wx) *ℤ uy ≡ (ux *ℤ wy -ℤ uy *ℤ wx) *ℤ vy
  multiple_in_y = without _ _ _ _ parallel (by_two_in_y vx vy wx wy ux uy)

  some : ux *ℤ wy -ℤ uy *ℤ wx ≢ pos 0
  some none =
      let no_x : ux ≡ pos 0 = factor_zero _ ux (positive_not_zero turn) (multiple_in_x ∙ ap (λ t. t *ℤ vx) none ∙ zero-mul vx) in
      let no_y : uy ≡ pos 0 = factor_zero _ uy (positive_not_zero turn) (multiple_in_y ∙ ap (λ t. t *ℤ vy) none ∙ zero-mul vy) in
      differ (same_coordinates p q (omega (arith, ints, no_x)) (omega (arith, ints, no_y)))

  pub along_of : IsAlong p q c z
  along_of = record {
    k = vx *ℤ wy -ℤ vy *ℤ wx;
    l = ux *ℤ wy -ℤ uy *ℤ wx;
    k_positive = turn;
    l_positive = positive_of_not_zero across some;
    in_x = multiple_in_x;
    in_y = multiple_in_y;
  }

module _ {p q : Point} {c z : Triple} (along : IsAlong p q c z) where
  -- then the way from c to z goes up where that from p to q does,
  pub along_up : IsBefore p q → Precedes c z
  along_up before =
      precedes_of_up c z
      (up_factor along.l _ _ (weak along.l_positive)
      (same_up along.in_x along.in_y (up_multiple along.k _ _ along.k_positive (up_of_before p q before))))

  -- and down where that goes down,
  pub along_down : IsBefore q p → Precedes z c
  along_down before =
      precedes_of_up z c
      (up_factor along.l _ _ (weak along.l_positive)
      (same_up (turned_round along.k along.l p.x q.x (c.X *ℤ z.W) (z.X *ℤ c.W) along.in_x)
      (turned_round along.k along.l p.y q.y (c.Y *ℤ z.W) (z.Y *ℤ c.W) along.in_y)
      (up_multiple along.k _ _ along.k_positive (up_of_before q p before))))

  -- and turns as that does
  pub along_turn : (ox oy : ℤ)
      → along.k *ℤ ((q.x -ℤ p.x) *ℤ oy -ℤ (q.y -ℤ p.y) *ℤ ox) ≡
      along.l *ℤ ((z.X *ℤ c.W -ℤ c.X *ℤ z.W) *ℤ oy -ℤ (z.Y *ℤ c.W -ℤ c.Y *ℤ z.W) *ℤ ox)
  along_turn ox oy =
      spread along.k (q.x -ℤ p.x) (q.y -ℤ p.y) ox oy ∙ (λ i. along.in_x i *ℤ oy -ℤ along.in_y i *ℤ ox)
      ∙ sym (spread along.l (z.X *ℤ c.W -ℤ c.X *ℤ z.W) (z.Y *ℤ c.W -ℤ c.Y *ℤ z.W) ox oy)

-- a turn to such a way
turned_along : {p q : Point} {c z : Triple} (along : IsAlong p q c z) (ox oy : ℤ)
    → along.k *ℤ (ox *ℤ (q.y -ℤ p.y) -ℤ oy *ℤ (q.x -ℤ p.x)) ≡
    along.l *ℤ (ox *ℤ (z.Y *ℤ c.W -ℤ c.Y *ℤ z.W) -ℤ oy *ℤ (z.X *ℤ c.W -ℤ c.X *ℤ z.W))
turned_along {p} {q} {c} {z} along ox oy =
    swapped along.k (q.x -ℤ p.x) (q.y -ℤ p.y) ox oy ∙ ap (λ t. pos 0 -ℤ t) (along_turn along ox oy)
    ∙ sym (swapped along.l (z.X *ℤ c.W -ℤ c.X *ℤ z.W) (z.Y *ℤ c.W -ℤ c.Y *ℤ z.W) ox oy)
  where
    swapped : (k ux uy ox oy : ℤ) → k *ℤ (ox *ℤ uy -ℤ oy *ℤ ux) ≡ pos 0 -ℤ k *ℤ (ux *ℤ oy -ℤ uy *ℤ ox)
    swapped k ux uy ox oy =
        same_value (var 0 ⊗ (var 3 ⊗ var 2 ⊖ var 4 ⊗ var 1)) (lit (pos 0) ⊖ var 0 ⊗ (var 1 ⊗ var 4 ⊖ var 2 ⊗ var 3))
        (k ∷ ux ∷ uy ∷ ox ∷ oy ∷ []) refl

-- two sides one after another that turn left have lines that do
pub lines_turn : (p q r t : Point) (y c z : Triple) → IsPoint c → IsAlong p q y c → IsAlong r t c z → pos 0 <ℤ determinant y c z
    → pos 0 <ℤ cross_product p q r t
lines_turn p q r t y c z at_c into out left =
    let sides = subst (λ w. pos 0 <ℤ w) (sym (turn_of_sides y c z)) (mul_positive c.W (determinant y c z) at_c left) in
    let first = factor_positive into.k _ into.k_positive
    (subst (λ w. pos 0 <ℤ w) (sym (along_turn into _ _)) (mul_positive into.l _ into.l_positive sides)) in
    factor_positive out.k _ out.k_positive
    (subst (λ w. pos 0 <ℤ w) (sym (turned_along out (q.x -ℤ p.x) (q.y -ℤ p.y))) (mul_positive out.l _ out.l_positive first))

-- a line along a side that comes from the left of a second line to its right turns left to it
pub line_turns_out : (p q a b : Point) (c z : Triple) → IsPoint c → IsPoint z → IsAlong p q c z
    → pos 0 ≤ℤ determinant (whole a) (whole b) c → IsRight (whole a) (whole b) z → pos 0 <ℤ cross_product p q a b
line_turns_out p q a b c z at_c at_z along left right =
    let far : pos 0 <ℤ ((z.X *ℤ c.W -ℤ c.X *ℤ z.W) *ℤ (b.y -ℤ a.y) -ℤ (z.Y *ℤ c.W -ℤ c.Y *ℤ z.W) *ℤ (b.x -ℤ a.x)) =
    let is = farther_is a b c z in
    let near = nearer_across a b c z at_c at_z left right in
    omega (arith, ints, is, near) in
    factor_positive along.k _ along.k_positive
    (subst (λ w. pos 0 <ℤ w) (sym (along_turn along _ _)) (mul_positive along.l _ along.l_positive far))

-- and the second turns left to one that comes back
pub line_turns_in : (p q a b : Point) (c z : Triple) → IsPoint c → IsPoint z → IsAlong p q c z → IsRight (whole a) (whole b) c
    → pos 0 ≤ℤ determinant (whole a) (whole b) z → pos 0 <ℤ cross_product a b p q
line_turns_in p q a b c z at_c at_z along right left =
    let far = subst (λ w. pos 0 <ℤ w) (farther_is a b c z) (farther_across a b c z at_c at_z right left) in
    factor_positive along.k _ along.k_positive
    (subst (λ w. pos 0 <ℤ w) (sym (turned_along along (b.x -ℤ a.x) (b.y -ℤ a.y))) (mul_positive along.l _ along.l_positive far))

-- ---- the least where two lines meet

module _ (p q r t : Point) (turned : pos 0 <ℤ cross_product p q r t) (c z : Triple) (at_c : IsPoint c) where
  abbrev vx' : ℤ
  vx' = z.X *ℤ c.W -ℤ c.X *ℤ z.W

  abbrev vy' : ℤ
  vy' = z.Y *ℤ c.W -ℤ c.Y *ℤ z.W

  -- the way from c to z by those of the two lines
  in_x : cross_product p q r t *ℤ vx' ≡ (pos 0 -ℤ farther r t c z) *ℤ (q.x -ℤ p.x) +ℤ farther p q c z *ℤ (t.x -ℤ r.x)
  in_x =
      by_two_in_x (q.x -ℤ p.x) (q.y -ℤ p.y) (t.x -ℤ r.x) (t.y -ℤ r.y) vx' vy'
      ∙ (λ i. minus_far i *ℤ (q.x -ℤ p.x) +ℤ sym (farther_is p q c z) i *ℤ (t.x -ℤ r.x))
    where
      minus_far : vx' *ℤ (t.y -ℤ r.y) -ℤ vy' *ℤ (t.x -ℤ r.x) ≡ pos 0 -ℤ farther r t c z
      minus_far = let is = farther_is r t c z in omega (arith, ints, is)

  in_y : cross_product p q r t *ℤ vy' ≡ (pos 0 -ℤ farther r t c z) *ℤ (q.y -ℤ p.y) +ℤ farther p q c z *ℤ (t.y -ℤ r.y)
  in_y =
      by_two_in_y (q.x -ℤ p.x) (q.y -ℤ p.y) (t.x -ℤ r.x) (t.y -ℤ r.y) vx' vy'
      ∙ (λ i. minus_far i *ℤ (q.y -ℤ p.y) +ℤ sym (farther_is p q c z) i *ℤ (t.y -ℤ r.y))
    where
      minus_far : vx' *ℤ (t.y -ℤ r.y) -ℤ vy' *ℤ (t.x -ℤ r.x) ≡ pos 0 -ℤ farther r t c z
      minus_far = let is = farther_is r t c z in omega (arith, ints, is)

  -- where the first goes down and the second up, no point that is right of neither comes before a point of both
  pub none_before_meeting : IsBefore q p → IsBefore r t → IsStraight (whole p) (whole q) c → IsStraight (whole r) (whole t) c
      → pos 0 ≤ℤ determinant (whole p) (whole q) z → pos 0 ≤ℤ determinant (whole r) (whole t) z → ¬ (Precedes z c)
  none_before_meeting down up on_first on_second left left_too before =
      no_balance (cross_product p q r t) (farther r t c z) (farther p q c z) _ _ _ _ _ _ turned
      (farther_from_line r t c z at_c on_second left_too) (farther_from_line p q c z at_c on_first left) (up_of_precedes z c before)
      (up_of_before q p down) (up_of_before r t up) (on_one_side (cross_product p q r t) (farther r t c z) (farther p q c z) (z.X *ℤ c.W) (c.X *ℤ z.W) p.x q.x (t.x -ℤ r.x) in_x)
      (on_one_side (cross_product p q r t) (farther r t c z) (farther p q c z) (z.Y *ℤ c.W) (c.Y *ℤ z.W) p.y q.y (t.y -ℤ r.y) in_y)

  module _ (at_z : IsPoint z) where
    -- where both go up, a point of the first that is not right of the second comes before each that is right of the second alone
    pub before_both_up : IsBefore p q → IsBefore r t → IsStraight (whole p) (whole q) c → pos 0 ≤ℤ determinant (whole p) (whole q) z
        → pos 0 ≤ℤ determinant (whole r) (whole t) c → IsRight (whole r) (whole t) z → Precedes c z
    before_both_up up up_too on left stays goes =
        let near = nearer_across r t c z at_c at_z stays goes in
        precedes_of_up c z
        (up_mean (cross_product p q r t) (pos 0 -ℤ farther r t c z) (farther p q c z) _ _ _ _ _ _ turned (omega (arith, ints, near))
        (farther_from_line p q c z at_c on left) (up_of_before p q up) (up_of_before r t up_too) in_x in_y)

    -- where both go down, so does a point of the second
    pub before_both_down : IsBefore q p → IsBefore t r → IsStraight (whole r) (whole t) c → pos 0 ≤ℤ determinant (whole r) (whole t) z
        → pos 0 ≤ℤ determinant (whole p) (whole q) c → IsRight (whole p) (whole q) z → Precedes c z
    before_both_down down down_too on left stays goes =
        let near = nearer_across p q c z at_c at_z stays goes in
        precedes_of_up c z
        (up_mean (cross_product p q r t) (pos 0 -ℤ farther p q c z) (farther r t c z) _ _ _ _ _ _ turned (omega (arith, ints, near))
        (farther_from_line r t c z at_c on left) (up_of_before t r down_too) (up_of_before q p down) (in_x ∙ both_signs (farther r t c z) (farther p q c z) p.x q.x r.x t.x)
        (in_y ∙ both_signs (farther r t c z) (farther p q c z) p.y q.y r.y t.y))
