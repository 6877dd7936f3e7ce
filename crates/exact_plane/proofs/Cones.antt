-- A point is in a cone exactly if neither turn toward it is against the cone's own.
use Rattle.std.proofs.Common.{◌≡◌, ◌≢◌, ◌↔◌, ◌⊎◌, inl, inr, refl, sym, ap, ◌∙◌, zero, suc, ℤ, pos, negsuc, ◌<ℤ◌, IsTrue, Bool, false, arith}
use Rattle.std.proofs.lemmas.Bool.{false_from_ne_true, not_from_false}
use Rattle.std.proofs.lemmas.Int.{ints}
use Rattle.std.specs.Prelude.{not}
use Rattle.plane.proofs.Turns.{straight_swap_first}
use Rattle.plane.specs.Cone.{IsInCone}
use Rattle.plane.specs.Point.{Triple}
use Rattle.plane.specs.Turn.{IsStraight}
use Rattle.exact_plane.specs.Direction.{direction_of, opposite, turn_of}
use Rattle.exact_plane.specs.declared.direction.Direction.{Direction}

-- a number does not turn to the right exactly if it is not negative,
not_right : (s : ℤ) → (¬ (s <ℤ pos 0)) ↔ (direction_of s ≢ opposite (direction_of (pos 1)))
not_right (pos zero) = (λ _ e. cc, λ _ h. omega (arith, ints))
not_right (pos (suc n)) = (λ _ e. cc, λ _ h. omega (arith, ints))
not_right (negsuc n) = (λ h e. h (omega (arith, ints)), λ h. absurd (h refl))

-- and not to the left exactly if it is not positive
not_left : (s : ℤ) → (¬ (pos 0 <ℤ s)) ↔ (direction_of s ≢ opposite (direction_of (negsuc 0)))
not_left (pos zero) = (λ _ e. cc, λ _ h. omega (arith, ints))
not_left (pos (suc n)) = (λ h e. h (omega (arith, ints)), λ h. absurd (h refl))
not_left (negsuc n) = (λ _ e. cc, λ _ h. omega (arith, ints))

-- the two tests against a turn
cone_by : (z s t : ℤ) → z ≢ pos 0
    → ((pos 0 <ℤ z × ¬ (s <ℤ pos 0) × ¬ (t <ℤ pos 0)) ⊎ (z <ℤ pos 0 × ¬ (pos 0 <ℤ s) × ¬ (pos 0 <ℤ t)))
    ↔ ((direction_of s ≢ opposite (direction_of z)) × (direction_of t ≢ opposite (direction_of z)))
cone_by (pos zero) s t some = absurd (some refl)
cone_by (pos (suc n)) s t some = (
  λ h. elim h [ inl k ↦ ((not_right s).0 k.1, (not_right t).0 k.2) | inr k ↦ absurd (omega (arith, ints, k.0)) ],
  λ h. inl (omega (arith, ints), (not_right s).1 h.0, (not_right t).1 h.1),
)
cone_by (negsuc n) s t some = (
  λ h. elim h [ inl k ↦ absurd (omega (arith, ints, k.0)) | inr k ↦ ((not_left s).0 k.1, (not_left t).0 k.2) ],
  λ h. inr (omega (arith, ints), (not_left s).1 h.0, (not_left t).1 h.1),
)

-- the same of points
pub cone_is : (v a c u : Triple) → ¬ IsStraight a v c
    → IsInCone v a c u ↔ ((turn_of v a u ≢ opposite (turn_of v a c)) × (turn_of v u c ≢ opposite (turn_of v a c)))
cone_is v a c u turns = cone_by _ _ _ (λ zero. turns (straight_swap_first v a c zero))

-- by two tests, each of whether a turn is against the cone's
module _ (v a c u : Triple) (turns : ¬ IsStraight a v c) (along : Direction) (along_is : along ≡ turn_of v a c)
    (against : Direction) (against_is : against ≡ opposite along)
    (first : Bool) (first_is : IsTrue first ↔ (turn_of v a u ≡ against)) where
  against_cone : against ≡ opposite (turn_of v a c)
  against_cone = against_is ∙ ap opposite along_is

  -- where the first finds none, the second decides
  pub second_decides : first ≡ false → (second : Bool) → IsTrue second ↔ (turn_of v u c ≡ against) → IsTrue (not second) ↔ IsInCone v a c u
  second_decides none second second_is =
      let cone = cone_is v a c u turns in (
        λ h. cone.1 (
          λ e. absurd (cc (first_is.1 (e ∙ sym against_cone), none)),
          λ e. absurd (cc (second_is.1 (e ∙ sym against_cone), h)),
        ),
        λ h. not_from_false _ (false_from_ne_true _ (λ t. (cone.0 h).1 (second_is.0 t ∙ against_cone))),
      )

  -- where it finds one, the point is not in the cone
  pub first_decides : IsTrue first → IsTrue (not first) ↔ IsInCone v a c u
  first_decides one = (λ h. absurd (cc (h, one)), λ h. absurd (((cone_is v a c u turns).0 h).0 (first_is.0 one ∙ against_cone)))
