-- Signs that follow from the relation of four directions, over plain integers: ab is positive where b is left of a.
use Rattle.std.proofs.Common.{◌≡◌, inl, inr, ℤ, pos, ◌+ℤ◌, ◌-ℤ◌, ◌*ℤ◌, ◌<ℤ◌, ◌≤ℤ◌, arith}
use Rattle.std.proofs.lemmas.Int.{ints}
use Rattle.integer_algebra.proofs.Certificate.{product_zero}
use Rattle.integer_algebra.proofs.SignSteps.{negative_not_zero, positive_not_zero, weak, weak_order}
use Rattle.integer_algebra.proofs.Signs.{factor_nonnegative, factor_nonpositive, factor_positive, factor_zero, lt_or_le, mul_negative}
use Rattle.integer_algebra.proofs.Signs.{mul_nonnegative, mul_nonpositive, mul_nonpositives, mul_positive}

-- ---- what is not so, of two signs

-- where not x is positive and y not, and x is positive, y is so too
pub positive_unless : {x y : ℤ} → pos 0 <ℤ x → ¬ ((pos 0 <ℤ x) × (y ≤ℤ pos 0)) → pos 0 <ℤ y
positive_unless {x} {y} h n = elim (lt_or_le (pos 0) y) [ inl k ↦ k | inr k ↦ absurd (n (h, k)) ]

-- and x is not positive where y is not
pub not_positive_unless : {x y : ℤ} → y ≤ℤ pos 0 → ¬ ((pos 0 <ℤ x) × (y ≤ℤ pos 0)) → x ≤ℤ pos 0
not_positive_unless {x} {y} h n = elim (lt_or_le (pos 0) x) [ inl k ↦ absurd (n (k, h)) | inr k ↦ k ]

-- where not x is positive and y negative, and x is positive, y is not negative
pub not_negative_unless : {x y : ℤ} → pos 0 <ℤ x → ¬ ((pos 0 <ℤ x) × (y <ℤ pos 0)) → pos 0 ≤ℤ y
not_negative_unless {x} {y} h n = elim (lt_or_le y (pos 0)) [ inl k ↦ absurd (n (h, k)) | inr k ↦ k ]

-- and x is not positive where y is negative
pub not_positive_before : {x y : ℤ} → y <ℤ pos 0 → ¬ ((pos 0 <ℤ x) × (y <ℤ pos 0)) → x ≤ℤ pos 0
not_positive_before {x} {y} h n = elim (lt_or_le (pos 0) x) [ inl k ↦ absurd (n (k, h)) | inr k ↦ k ]

-- where not x is positive and y not negative, and x is positive, y is negative
pub negative_unless : {x y : ℤ} → pos 0 <ℤ x → ¬ ((pos 0 <ℤ x) × (pos 0 ≤ℤ y)) → y <ℤ pos 0
negative_unless {x} {y} h n = elim (lt_or_le y (pos 0)) [ inl k ↦ k | inr k ↦ absurd (n (h, k)) ]

-- ---- four directions a, b, c and d, with d left of a or b or c where ad, bd or cd is positive, and so on

-- their relation
pub record Relation (ab ac ad bc bd cd : ℤ) : Type 0 where
  pub holds : ab *ℤ cd -ℤ ac *ℤ bd +ℤ ad *ℤ bc ≡ pos 0

-- any four have it
pub relation : {A : Type 0} (f : A → A → ℤ) → ((a b c d : A) → f a b *ℤ f c d -ℤ f a c *ℤ f b d +ℤ f a d *ℤ f b c ≡ pos 0) → (a b c d : A)
    → Relation (f a b) (f a c) (f a d) (f b c) (f b d) (f c d)
relation f four a b c d = record { holds = four a b c d }

module _ {ab ac ad bc bd cd : ℤ} (e : Relation ab ac ad bc bd cd) where
  -- b not right of a, then c and d ahead: where d is left of a, c is
  pub left_of_start : pos 0 ≤ℤ ab → pos 0 <ℤ bd → pos 0 ≤ℤ cd → pos 0 <ℤ ad → pos 0 <ℤ bc → pos 0 <ℤ ac
  left_of_start hab hbd hcd had hbc =
      let first = mul_nonnegative ab cd hab hcd in
      let last = mul_positive ad bc had hbc in
      factor_positive bd ac hbd (omega (arith, ints))

  -- b left of a, but c not: where d is neither left of a nor of b, it is not right of c
  pub not_right_of_end : pos 0 <ℤ ab → ac ≤ℤ pos 0 → ad ≤ℤ pos 0 → pos 0 <ℤ bc → bd ≤ℤ pos 0 → pos 0 ≤ℤ cd
  not_right_of_end hab hac had hbc hbd =
      let middle = mul_nonpositives ac bd hac hbd in
      let last = mul_nonpositive bc ad (weak hbc) had in
      factor_nonnegative ab cd hab (omega (arith, ints))

  -- and where it is not left of c either, it is in line with a
  pub in_line_with_start : pos 0 <ℤ ab → ac ≤ℤ pos 0 → ad ≤ℤ pos 0 → pos 0 <ℤ bc → bd ≤ℤ pos 0 → cd ≤ℤ pos 0 → ad ≡ pos 0
  in_line_with_start hab hac had hbc hbd hcd =
      let first = mul_nonpositive ab cd (weak hab) hcd in
      let middle = mul_nonpositives ac bd hac hbd in
      let last = mul_nonpositive bc ad (weak hbc) had in
      factor_zero bc ad (positive_not_zero hbc) (omega (arith, ints))

  -- b left of a and c right of it: where d is in line with a and right of c, it is left of b
  pub left_of_middle : pos 0 <ℤ ab → ac <ℤ pos 0 → ad ≡ pos 0 → cd <ℤ pos 0 → pos 0 <ℤ bd
  left_of_middle hab hac had hcd = elim (lt_or_le (pos 0) bd) [
    | inl k ↦ k
    | inr k ↦
        let first = mul_negative ab cd hab hcd in
        let middle = mul_nonpositives ac bd (weak_order hac) k in
        let last = product_zero bc had in
        absurd (omega (arith, ints))
  ]

  -- b right of a, c left of b: where d is not left of a, but left of b and not right of c, c is not left of a
  pub not_left_of_start : ab <ℤ pos 0 → ad ≤ℤ pos 0 → pos 0 <ℤ bd → pos 0 ≤ℤ cd → pos 0 <ℤ bc → ac ≤ℤ pos 0
  not_left_of_start hab had hbd hcd hbc =
      let first = mul_nonpositive cd ab hcd (weak_order hab) in
      let last = mul_nonpositive bc ad (weak hbc) had in
      factor_nonpositive bd ac hbd (omega (arith, ints))

  -- b right of a, c in line with a and left of b: where d is not left of a nor right of c, it is in line with both
  pub end_in_line : ab <ℤ pos 0 → ac ≡ pos 0 → ad ≤ℤ pos 0 → pos 0 ≤ℤ cd → pos 0 <ℤ bc → (ad ≡ pos 0) × (cd ≡ pos 0)
  end_in_line hab hac had hcd hbc =
      let first = mul_nonpositive cd ab hcd (weak_order hab) in
      let middle = product_zero bd hac in
      let last = mul_nonpositive bc ad (weak hbc) had in
      (factor_zero bc ad (positive_not_zero hbc) (omega (arith, ints)), factor_zero ab cd (negative_not_zero hab) (omega (arith, ints)))

  -- b and d not right of a, c left of a: where c is not right of b and d left of c, d is not right of b
  pub keeps_left : pos 0 ≤ℤ ab → pos 0 <ℤ ac → pos 0 ≤ℤ ad → pos 0 ≤ℤ bc → pos 0 <ℤ cd → pos 0 ≤ℤ bd
  keeps_left hab hac had hbc hcd =
      let first = mul_nonnegative ab cd hab (weak hcd) in
      let last = mul_nonnegative ad bc had hbc in
      factor_nonnegative ac bd hac (omega (arith, ints))

  -- b and d not right of a, c in line with a: where c is left of b and d left of c, b is in line with a
  pub turns_back : pos 0 ≤ℤ ab → ac ≡ pos 0 → pos 0 ≤ℤ ad → pos 0 <ℤ bc → pos 0 <ℤ cd → ab ≡ pos 0
  turns_back hab hac had hbc hcd =
      let first = mul_nonnegative ab cd hab (weak hcd) in
      let middle = product_zero bd hac in
      let last = mul_nonnegative ad bc had (weak hbc) in
      factor_zero cd ab (positive_not_zero hcd) (omega (arith, ints))

  -- c and d in line with a, d left of c: all is in line with a
  pub all_in_line : ac ≡ pos 0 → ad ≡ pos 0 → pos 0 <ℤ cd → ab ≡ pos 0
  all_in_line hac had hcd =
      let middle = product_zero bd hac in
      let last = product_zero bc had in
      factor_zero cd ab (positive_not_zero hcd) (omega (arith, ints))

  -- b not right of a, c left of a and not right of b: where d is not right of a, but right of b, it is right of c
  pub right_of_third : pos 0 ≤ℤ ab → pos 0 <ℤ ac → pos 0 ≤ℤ ad → pos 0 ≤ℤ bc → bd <ℤ pos 0 → cd <ℤ pos 0
  right_of_third hab hac had hbc hbd = elim (lt_or_le cd (pos 0)) [
    | inl h ↦ h
    | inr h ↦
        let first = mul_nonnegative ab cd hab h in
        let middle = mul_negative ac bd hac hbd in
        let last = mul_nonnegative ad bc had hbc in
        absurd (omega (arith, ints))
  ]
