-- The signs behind the test of two edges of a funnel at a common point, for a point that is not above the diagonal.
use Rattle.std.proofs.Common.{◌≡◌, ◌∷◌, refl, ◌∙◌, ℤ, pos, ◌+ℤ◌, ◌-ℤ◌, ◌*ℤ◌, ◌<ℤ◌, ◌≤ℤ◌, arith, []}
use Rattle.std.proofs.lemmas.Int.{ints}
use Rattle.integer_algebra.proofs.Laws.{mul_comm}
use Rattle.integer_algebra.proofs.Polynomial.{var, ◌⊕◌, ◌⊖◌, ◌⊗◌, same_value}
use Rattle.integer_algebra.proofs.SignSteps.{negative_not_zero, positive_not_zero, weak, weak_order}
use Rattle.integer_algebra.proofs.Signs.{factor_zero, mul_nonnegative, mul_nonpositive, mul_nonpositives}

-- the relation of four triples at a functional with the values P, O, Q, Y there, and at the weights 1, 1, 1, w
module _ (A B C D w P O Q Y : ℤ) (values : A *ℤ P -ℤ B *ℤ O +ℤ C *ℤ Q -ℤ D *ℤ Y ≡ pos 0) (weights : A -ℤ B +ℤ C -ℤ D *ℤ w ≡ pos 0)
    (some : pos 0 <ℤ w) where
  -- no point of such weights is right of both edges at the apex, or what they are, and not right of the way between their ends
  pub not_beside_all : A <ℤ pos 0 → C ≤ℤ pos 0 → pos 0 ≤ℤ D → pos 0 ≤ℤ B → ⊥
  not_beside_all a c d b = omega (arith, ints, weights, mul_nonnegative D w d (weak some))

  module _ (above : pos 0 ≤ℤ O) (low : Y ≤ℤ pos 0) where
    -- the differences from the second value
    drops : A *ℤ (P -ℤ O) -ℤ C *ℤ (O -ℤ Q) +ℤ D *ℤ (w *ℤ O -ℤ Y) ≡ pos 0
    drops =
        same_value (var 0 ⊗ (var 5 ⊖ var 6) ⊖ var 2 ⊗ (var 6 ⊖ var 7) ⊕ var 3 ⊗ (var 4 ⊗ var 6 ⊖ var 8))
        ((var 0 ⊗ var 5 ⊖ var 1 ⊗ var 6 ⊕ var 2 ⊗ var 7 ⊖ var 3 ⊗ var 8) ⊖ var 6 ⊗ (var 0 ⊖ var 1 ⊕ var 2 ⊖ var 3 ⊗ var 4))
        (A ∷ B ∷ C ∷ D ∷ w ∷ P ∷ O ∷ Q ∷ Y ∷ []) refl
        ∙ (λ i. values i -ℤ O *ℤ weights i)
        ∙ omega (arith, ints)

    -- the last of them is not negative,
    last_drop : pos 0 ≤ℤ (w *ℤ O -ℤ Y)
    last_drop = omega (arith, ints, mul_nonnegative w O (weak some) above)

    -- and where it is 0, so is the second value
    level_where : w *ℤ O -ℤ Y ≡ pos 0 → (O ≡ pos 0) × (Y ≡ pos 0)
    level_where e =
        let least = mul_nonnegative w O (weak some) above in
        (factor_zero w O (positive_not_zero some) (omega (arith, ints, e, least)), omega (arith, ints, e, least))

    -- a point left of the outer of two left edges, and not of the inner one, is on a line with the outer one,
    pub level_left : pos 0 ≤ℤ A → C ≤ℤ pos 0 → pos 0 <ℤ D → O ≤ℤ P → Q ≤ℤ O → (O ≡ pos 0) × (Y ≡ pos 0)
    level_left a c d hp hq =
        let first = mul_nonnegative A (P -ℤ O) a (omega (arith, ints)) in
        let second = mul_nonpositive (O -ℤ Q) C (omega (arith, ints)) c in
        let third = mul_nonnegative D (w *ℤ O -ℤ Y) (weak d) last_drop in
        level_where (factor_zero D (w *ℤ O -ℤ Y) (positive_not_zero d)
        (omega (arith, ints, first, second, third, mul_comm C (O -ℤ Q), drops)))

    -- and so is one right of the outer of two right edges, and not of the inner one
    pub level_right : A ≤ℤ pos 0 → pos 0 ≤ℤ C → D <ℤ pos 0 → O ≤ℤ P → Q ≤ℤ O → (O ≡ pos 0) × (Y ≡ pos 0)
    level_right a c d hp hq =
        let first = mul_nonpositive (P -ℤ O) A (omega (arith, ints)) a in
        let second = mul_nonnegative C (O -ℤ Q) c (omega (arith, ints)) in
        let third = mul_nonpositive (w *ℤ O -ℤ Y) D last_drop (weak_order d) in
        level_where (factor_zero D (w *ℤ O -ℤ Y) (negative_not_zero d)
        (omega (arith, ints, first, second, third, mul_comm A (P -ℤ O), mul_comm D (w *ℤ O -ℤ Y), drops)))

    -- where one is to the left of the left edge at the apex, and to the right of the right one, the left edge does not fall
    pub level_at_apex : A <ℤ pos 0 → C ≤ℤ pos 0 → pos 0 ≤ℤ D → P ≤ℤ O → Q ≤ℤ O → O ≡ P
    level_at_apex a c d hp hq =
        let first = mul_nonpositives A (P -ℤ O) (weak_order a) (omega (arith, ints)) in
        let second = mul_nonpositive (O -ℤ Q) C (omega (arith, ints)) c in
        let third = mul_nonnegative D (w *ℤ O -ℤ Y) d last_drop in
        let none : A *ℤ (P -ℤ O) ≡ pos 0 = omega (arith, ints, first, second, third, mul_comm C (O -ℤ Q), drops) in
        let level = factor_zero A (P -ℤ O) (negative_not_zero a) none in
        omega (arith, ints, level)
