-- Two weights that are not negative and not both 0, and the signs of weighted sums.
use Rattle.std.proofs.Common.{◌≡◌, ◌⊎◌, inl, inr, [], ◌∷◌, refl, ap, ◌∙◌, ℤ, pos, ◌+ℤ◌, ◌-ℤ◌, ◌*ℤ◌, neg_ℤ, ◌<ℤ◌, ◌≤ℤ◌, arith}
use Rattle.std.proofs.lemmas.Int.{ints}
use Rattle.integer_algebra.proofs.Laws.{add-mul, mul-neg, mul-sub, mul-zero, zero-mul}
use Rattle.integer_algebra.proofs.Polynomial.{var, lit, ◌⊕◌, ◌⊖◌, ◌⊗◌, same_value}
use Rattle.integer_algebra.proofs.Signs.{Sign, factor_nonnegative, factor_nonpositive, is_negative, is_positive, is_zero, mul_nonnegative}
use Rattle.integer_algebra.proofs.Signs.{mul_nonpositive, mul_positive, sign}

-- weights whose sum is positive are not both 0
pub some_weight : (k l m w C D : ℤ) → pos 0 <ℤ k → pos 0 <ℤ w → pos 0 ≤ℤ l → pos 0 ≤ℤ m → k *ℤ w ≡ l *ℤ C +ℤ m *ℤ D
    → pos 0 <ℤ (l +ℤ m)
some_weight k l m w C D hk hw hl hm e = go (sign (l +ℤ m))
  where
    go : Sign (l +ℤ m) → pos 0 <ℤ (l +ℤ m)
    go (is_negative h) = absurd (omega (arith, ints))
    go (is_positive h) = h
    go (is_zero h) =
        let no_l : l ≡ pos 0 = omega (arith, ints) in
        let no_m : m ≡ pos 0 = omega (arith, ints) in
        absurd (omega (arith, ints, mul_positive k w hk hw, ap (λ z. z *ℤ C) no_l, ap (λ z. z *ℤ D) no_m, zero-mul C, zero-mul D))

-- weights that are not negative, and not both 0
module _ (l m : ℤ) (hl : pos 0 ≤ℤ l) (hm : pos 0 ≤ℤ m) (some : pos 0 <ℤ (l +ℤ m)) where
  -- a weighted sum is positive where it is so with a positive first weight: where that is 0, the second counts
  by_first_weight : (v t : ℤ) → pos 0 <ℤ t → (pos 0 <ℤ l → pos 0 <ℤ (l *ℤ v +ℤ m *ℤ t)) → pos 0 <ℤ (l *ℤ v +ℤ m *ℤ t)
  by_first_weight v t k counts = go (sign l)
    where
      go : Sign l → pos 0 <ℤ (l *ℤ v +ℤ m *ℤ t)
      go (is_negative n) = absurd (omega (arith, ints))
      go (is_zero z) =
          let none : l *ℤ v ≡ pos 0 = ap (λ x. x *ℤ v) z ∙ zero-mul v in
          omega (arith, ints, mul_positive m t (omega (arith, ints)) k)
      go (is_positive n) = counts n

  -- the sum of two positive numbers with such weights is positive
  pub weighted_positive : (u s : ℤ) → pos 0 <ℤ u → pos 0 <ℤ s → pos 0 <ℤ (l *ℤ u +ℤ m *ℤ s)
  weighted_positive u s h k =
      by_first_weight u s k (λ n. omega (arith, ints, mul_positive l u n h, mul_nonnegative m s hm (omega (arith, ints))))

  -- where the first weight gives nothing to a positive number, it is 0, and the second counts
  pub first_counts_nothing : (u v t : ℤ) → l *ℤ u ≡ pos 0 → pos 0 <ℤ u → pos 0 <ℤ t → pos 0 <ℤ (l *ℤ v +ℤ m *ℤ t)
  first_counts_nothing u v t e h k = by_first_weight v t k (λ n. absurd (omega (arith, ints, mul_positive l u n h)))

-- a vector points forward in the order of points
abbrev pub Forward : ℤ → ℤ → Type 0
Forward x y = (pos 0 <ℤ x) ⊎ ((x ≡ pos 0) × (pos 0 <ℤ y))

-- so not to the left
pub not_to_the_left : (x y : ℤ) → Forward x y → pos 0 ≤ℤ x
not_to_the_left x y (inl h) = omega (arith, ints, h)
not_to_the_left x y (inr h) = let none = h.0 in omega (arith, ints, none)

-- two forward vectors do not balance
pub no_balance : (l m u v s t : ℤ) → pos 0 ≤ℤ l → pos 0 ≤ℤ m → pos 0 <ℤ (l +ℤ m)
    → l *ℤ u +ℤ m *ℤ s ≡ pos 0 → l *ℤ v +ℤ m *ℤ t ≡ pos 0 → Forward u v → Forward s t → ⊥
no_balance l m u v s t hl hm some e f (inl h) (inl k) = omega (arith, ints, weighted_positive l m hl hm some u s h k)
no_balance l m u v s t hl hm some e f (inl h) (inr k) =
    let none : l *ℤ u ≡ pos 0 = omega (arith, ints, ap (λ x. m *ℤ x) k.0, mul-zero m) in
    omega (arith, ints, first_counts_nothing l m hl hm some u v t none h k.1)
no_balance l m u v s t hl hm some e f (inr h) (inl k) =
    let none : m *ℤ s ≡ pos 0 = omega (arith, ints, ap (λ x. l *ℤ x) h.0, mul-zero l) in
    omega (arith, ints, first_counts_nothing m l hm hl (omega (arith, ints)) s t v none k h.1)
no_balance l m u v s t hl hm some e f (inr h) (inr k) = omega (arith, ints, weighted_positive l m hl hm some v t h.1 k.1)

-- the ways from the ends to their combination balance, in one coordinate
pub balance : (k l m x u s : ℤ) → k *ℤ x ≡ l *ℤ u +ℤ m *ℤ s → k *ℤ pos 1 ≡ l *ℤ pos 1 +ℤ m *ℤ pos 1
    → l *ℤ (x -ℤ u) +ℤ m *ℤ (x -ℤ s) ≡ pos 0
balance k l m x u s e w =
    let same : k ≡ l +ℤ m = omega (arith, ints) in
    omega (arith, ints, mul-sub l x u, mul-sub m x s, add-mul l m x, ap (λ z. z *ℤ x) same)

-- so do the ways back
pub balance_back : (k l m x u s : ℤ) → k *ℤ x ≡ l *ℤ u +ℤ m *ℤ s → k *ℤ pos 1 ≡ l *ℤ pos 1 +ℤ m *ℤ pos 1
    → l *ℤ (u -ℤ x) +ℤ m *ℤ (s -ℤ x) ≡ pos 0
balance_back k l m x u s e w =
    let same : k ≡ l +ℤ m = omega (arith, ints) in
    omega (arith, ints, mul-sub l u x, mul-sub m s x, add-mul l m x, ap (λ z. z *ℤ x) same)

-- ---- two rays from one point

-- where a positive multiple of a positive number is a multiple of another, that one is positive
positive_ray : (k l P A : ℤ) → pos 0 <ℤ k → pos 0 ≤ℤ l → k *ℤ P ≡ l *ℤ A → pos 0 <ℤ P → pos 0 <ℤ A
positive_ray k l P A hk hl e h =
    let positive = mul_positive k P hk h in
    elim (sign A) [
      | is_negative n ↦ absurd (omega (arith, ints, positive, mul_nonpositive l A hl (omega (arith, ints))))
      | is_zero n ↦ absurd (omega (arith, ints, positive, mul_nonpositive l A hl (omega (arith, ints))))
      | is_positive n ↦ n
    ]

module _ (k l j m L M : ℤ) (hk : pos 0 <ℤ k) (hl : pos 0 ≤ℤ l) (hj : pos 0 <ℤ j) (hm : pos 0 ≤ℤ m)
    (hL : pos 0 ≤ℤ L) (hM : pos 0 ≤ℤ M) (some : pos 0 <ℤ (L +ℤ M)) where
  -- what lies on the rays to two numbers that balance is not positive
  not_ahead : (P A C : ℤ) → k *ℤ P ≡ l *ℤ A → j *ℤ P ≡ m *ℤ C → L *ℤ A +ℤ M *ℤ C ≡ pos 0 → ¬ (pos 0 <ℤ P)
  not_ahead P A C e f g h =
      omega (arith, ints, weighted_positive L M hL hM some A C (positive_ray k l P A hk hl e h) (positive_ray j m P C hj hm f h))

  -- so it is 0
  pub on_both_rays : (P A C : ℤ) → k *ℤ P ≡ l *ℤ A → j *ℤ P ≡ m *ℤ C → L *ℤ A +ℤ M *ℤ C ≡ pos 0 → P ≡ pos 0
  on_both_rays P A C e f g =
      let ahead = not_ahead P A C e f g in
      let E : k *ℤ neg_ℤ P ≡ l *ℤ neg_ℤ A = omega (arith, ints, mul-neg k P, mul-neg l A) in
      let F : j *ℤ neg_ℤ P ≡ m *ℤ neg_ℤ C = omega (arith, ints, mul-neg j P, mul-neg m C) in
      let G : L *ℤ neg_ℤ A +ℤ M *ℤ neg_ℤ C ≡ pos 0 = omega (arith, ints, mul-neg L A, mul-neg M C) in
      let behind = not_ahead (neg_ℤ P) (neg_ℤ A) (neg_ℤ C) E F G in
      elim (sign P) [
        | is_negative n ↦ absurd (behind (omega (arith, ints)))
        | is_zero n ↦ n
        | is_positive n ↦ absurd (ahead n)
      ]

-- ---- one coordinate of a combination of whole points

module _ (k l m X W u s : ℤ) (e : k *ℤ X ≡ l *ℤ u +ℤ m *ℤ s) (f : k *ℤ W ≡ l *ℤ pos 1 +ℤ m *ℤ pos 1) where
  -- how far it is from a number
  pub offset_along : (n : ℤ) → k *ℤ (X -ℤ n *ℤ W) ≡ l *ℤ (u -ℤ n) +ℤ m *ℤ (s -ℤ n)
  offset_along n =
      let xs = k ∷ l ∷ m ∷ X ∷ W ∷ u ∷ s ∷ n ∷ [] in
      let one = lit (pos 1) in
      same_value (var 0 ⊗ (var 3 ⊖ var 7 ⊗ var 4)) (var 0 ⊗ var 3 ⊖ var 7 ⊗ (var 0 ⊗ var 4)) xs refl
      ∙ (λ i. e i -ℤ n *ℤ f i)
      ∙ same_value (var 1 ⊗ var 5 ⊕ var 2 ⊗ var 6 ⊖ var 7 ⊗ (var 1 ⊗ one ⊕ var 2 ⊗ one))
      (var 1 ⊗ (var 5 ⊖ var 7) ⊕ var 2 ⊗ (var 6 ⊖ var 7)) xs refl

  -- how far it is from its last end
  pub offset_from_last : k *ℤ (X -ℤ s *ℤ W) ≡ l *ℤ (u -ℤ s)
  offset_from_last =
      offset_along s
      ∙ same_value (var 0 ⊗ (var 2 ⊖ var 3) ⊕ var 1 ⊗ (var 3 ⊖ var 3)) (var 0 ⊗ (var 2 ⊖ var 3)) (l ∷ m ∷ u ∷ s ∷ []) refl

  module _ (hk : pos 0 <ℤ k) (hl : pos 0 ≤ℤ l) (hm : pos 0 ≤ℤ m) where
    -- it is not below a lower bound of the ends
    pub at_least : (n : ℤ) → n ≤ℤ u → n ≤ℤ s → (n *ℤ W) ≤ℤ X
    at_least n hu hs =
        let first : pos 0 ≤ℤ (l *ℤ (u -ℤ n)) = mul_nonnegative _ _ hl (omega (arith, ints)) in
        let second : pos 0 ≤ℤ (m *ℤ (s -ℤ n)) = mul_nonnegative _ _ hm (omega (arith, ints)) in
        let both = factor_nonnegative k (X -ℤ n *ℤ W) hk (omega (arith, ints, offset_along n)) in
        omega (arith, ints, both)

    -- and not above an upper bound
    pub at_most : (n : ℤ) → u ≤ℤ n → s ≤ℤ n → X ≤ℤ (n *ℤ W)
    at_most n hu hs =
        let first : (l *ℤ (u -ℤ n)) ≤ℤ pos 0 = mul_nonpositive _ _ hl (omega (arith, ints)) in
        let second : (m *ℤ (s -ℤ n)) ≤ℤ pos 0 = mul_nonpositive _ _ hm (omega (arith, ints)) in
        let both = factor_nonpositive k (X -ℤ n *ℤ W) hk (omega (arith, ints, offset_along n)) in
        omega (arith, ints, both)
