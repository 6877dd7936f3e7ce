-- Signs of means of two and of three numbers, where some weights or numbers are not 0.
use Rattle.std.proofs.Common.{◌≡◌, ◌⊎◌, inl, inr, ap, ◌∙◌, ℤ, pos, ◌+ℤ◌, ◌*ℤ◌, ◌<ℤ◌, ◌≤ℤ◌, arith}
use Rattle.std.proofs.lemmas.Int.{ints}
use Rattle.integer_algebra.proofs.Laws.{mul-zero, zero-mul}
use Rattle.integer_algebra.proofs.SignSteps.{mean_last_positive, not_both, weak}
use Rattle.integer_algebra.proofs.Signs.{factor_negative, factor_nonnegative, factor_positive, is_negative, is_positive, is_zero, mul_negative}
use Rattle.integer_algebra.proofs.Signs.{mul_nonnegative, mul_nonpositive, mul_positive, sign}

-- a mean with both weights of two numbers of which one is positive
pub mean_some_positive : (k l m z f g : ℤ) → pos 0 <ℤ k → pos 0 <ℤ l → pos 0 <ℤ m → k *ℤ z ≡ l *ℤ f +ℤ m *ℤ g → pos 0 ≤ℤ f → pos 0 ≤ℤ g
    → (pos 0 <ℤ f) ⊎ (pos 0 <ℤ g) → pos 0 <ℤ z
mean_some_positive k l m z f g hk hl hm e hf hg (inl h) =
    factor_positive k z hk (omega (arith, ints, e, mul_positive l f hl h, mul_nonnegative m g (weak hm) hg))
mean_some_positive k l m z f g hk hl hm e hf hg (inr h) = mean_last_positive k l m z f g hk (weak hl) hm e hf h

-- a mean that is not negative, of 0 and a negative number, has no weight on that
pub no_weight_below : (k l m z f g : ℤ) → pos 0 <ℤ k → pos 0 ≤ℤ m → k *ℤ z ≡ l *ℤ f +ℤ m *ℤ g → f ≡ pos 0 → g <ℤ pos 0 → pos 0 ≤ℤ z
    → m ≡ pos 0
no_weight_below k l m z f g hk hm e ef hg hz = elim (sign m) [
  | is_negative n ↦ absurd (not_both n hm)
  | is_zero n ↦ n
  | is_positive n ↦
      absurd (omega (arith, ints, e, ap (λ t. l *ℤ t) ef, mul-zero l, mul_negative m g n hg, mul_nonnegative k z (weak hk) hz))
]

-- ---- three numbers

-- a negative number times a weight is negative, or the weight gives nothing to any number
part_below : (u f F : ℤ) → pos 0 ≤ℤ u → f <ℤ pos 0 → ((u *ℤ f) <ℤ pos 0) ⊎ ((u *ℤ f ≡ pos 0) × (u *ℤ F ≡ pos 0))
part_below u f F hu hf = elim (sign u) [
  | is_negative n ↦ absurd (not_both n hu)
  | is_zero n ↦ inr (ap (λ t. t *ℤ f) n ∙ zero-mul f, ap (λ t. t *ℤ F) n ∙ zero-mul F)
  | is_positive n ↦ inl (mul_negative u f n hf)
]

-- three such parts make something negative, unless they all give nothing
parts_below : (a b c A B C : ℤ) → (a <ℤ pos 0) ⊎ ((a ≡ pos 0) × (A ≡ pos 0)) → (b <ℤ pos 0) ⊎ ((b ≡ pos 0) × (B ≡ pos 0))
    → (c <ℤ pos 0) ⊎ ((c ≡ pos 0) × (C ≡ pos 0)) → pos 0 <ℤ (A +ℤ B +ℤ C) → (a +ℤ b +ℤ c) <ℤ pos 0
parts_below a b c A B C ha hb hc some = grind (arith, ints)

module _ (k u v w z f g h : ℤ) (hk : pos 0 <ℤ k) (hu : pos 0 ≤ℤ u) (hv : pos 0 ≤ℤ v) (hw : pos 0 ≤ℤ w)
    (e : k *ℤ z ≡ u *ℤ f +ℤ v *ℤ g +ℤ w *ℤ h) where
  -- a mean of numbers that are not negative is not negative
  pub three_not_negative : pos 0 ≤ℤ f → pos 0 ≤ℤ g → pos 0 ≤ℤ h → pos 0 ≤ℤ z
  three_not_negative hf hg hh =
      factor_nonnegative k z hk (omega (arith, ints, e, mul_nonnegative u f hu hf, mul_nonnegative v g hv hg, mul_nonnegative w h hw hh))

  -- of negative ones it is negative, where the weights are not all 0
  pub three_negative : (t F G H : ℤ) → pos 0 <ℤ t → k *ℤ t ≡ u *ℤ F +ℤ v *ℤ G +ℤ w *ℤ H → f <ℤ pos 0 → g <ℤ pos 0 → h <ℤ pos 0 → z <ℤ pos 0
  three_negative t F G H ht some hf hg hh =
      let below = parts_below (u *ℤ f) (v *ℤ g) (w *ℤ h) (u *ℤ F) (v *ℤ G) (w *ℤ H) (part_below u f F hu hf) (part_below v g G hv hg)
      (part_below w h H hw hh) (omega (arith, ints, some, mul_positive k t hk ht)) in
      factor_negative k z hk (omega (arith, ints, e, below))

  -- one that is not negative, of 0 and two numbers that are not positive, of which the last is negative, has no weight on that,
  pub no_last_weight : f ≡ pos 0 → g ≤ℤ pos 0 → h <ℤ pos 0 → pos 0 ≤ℤ z → w ≡ pos 0
  no_last_weight ef hg hh hz = elim (sign w) [
    | is_negative n ↦ absurd (not_both n hw)
    | is_zero n ↦ n
    | is_positive n ↦
        absurd (omega (
          arith,
          ints,
          e,
          ap (λ t. u *ℤ t) ef,
          mul-zero u,
          mul_nonpositive v g hv hg,
          mul_negative w h n hh,
          mul_nonnegative k z (weak hk) hz,
        ))
  ]

-- and none on the other, where that is negative too
pub no_middle_weight : (k u v w z f g h : ℤ) → pos 0 <ℤ k → pos 0 ≤ℤ u → pos 0 ≤ℤ v → pos 0 ≤ℤ w → k *ℤ z ≡ u *ℤ f +ℤ v *ℤ g +ℤ w *ℤ h
    → f ≡ pos 0 → g <ℤ pos 0 → h ≤ℤ pos 0 → pos 0 ≤ℤ z → v ≡ pos 0
no_middle_weight k u v w z f g h hk hu hv hw e ef hg hh hz =
    no_last_weight k u w v z f h g hk hu hw hv (omega (arith, ints, e)) ef hh hg hz
