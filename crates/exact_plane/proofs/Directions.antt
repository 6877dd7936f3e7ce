-- A direction tells the sign that it comes from.
use Rattle.std.proofs.Common.{◌≡◌, ◌≢◌, ◌↔◌, inl, inr, zero, suc, ℤ, pos, negsuc, ◌<ℤ◌, refl, sym, ap, ◌∙◌, arith}
use Rattle.std.proofs.lemmas.Int.{ints}
use Rattle.integer_algebra.proofs.OneSign.{OneSign}
use Rattle.exact_plane.specs.Direction.{direction_of}
use Rattle.exact_plane.specs.declared.direction.Direction.TheVariants.{Left, Right, Straight}

-- straight is zero
pub zero_of_straight : (z : ℤ) → direction_of z ≡ Straight → z ≡ pos 0
zero_of_straight (pos zero) e = refl
zero_of_straight (pos (suc n)) e = cc
zero_of_straight (negsuc n) e = cc

-- and zero is straight
pub straight_of_zero : (z : ℤ) → z ≡ pos 0 → direction_of z ≡ Straight
straight_of_zero z e = ap direction_of e

-- two numbers of one direction have one sign, unless it is straight
pub one_sign_of_direction : (x y : ℤ) → direction_of y ≡ direction_of x → direction_of x ≢ Straight → OneSign x y
one_sign_of_direction (pos zero) y e turns = absurd (turns refl)
one_sign_of_direction (pos (suc m)) (pos zero) e turns = cc
one_sign_of_direction (pos (suc m)) (pos (suc n)) e turns = inl (omega (arith, ints), omega (arith, ints))
one_sign_of_direction (pos (suc m)) (negsuc n) e turns = cc
one_sign_of_direction (negsuc m) (pos zero) e turns = cc
one_sign_of_direction (negsuc m) (pos (suc n)) e turns = cc
one_sign_of_direction (negsuc m) (negsuc n) e turns = inr (omega (arith, ints), omega (arith, ints))

-- a positive number is to the left,
pub left_of_positive : (z : ℤ) → pos 0 <ℤ z → direction_of z ≡ Left
left_of_positive (pos zero) h = absurd (omega (arith, ints))
left_of_positive (pos (suc n)) h = refl
left_of_positive (negsuc n) h = absurd (omega (arith, ints))

-- and only a positive one
pub positive_of_left : (z : ℤ) → direction_of z ≡ Left → pos 0 <ℤ z
positive_of_left (pos zero) e = cc
positive_of_left (pos (suc n)) e = omega (arith, ints)
positive_of_left (negsuc n) e = cc

-- a negative one is to the right,
pub right_of_negative : (z : ℤ) → z <ℤ pos 0 → direction_of z ≡ Right
right_of_negative (pos n) h = absurd (omega (arith, ints))
right_of_negative (negsuc n) h = refl

-- and only a negative one
pub negative_of_right : (z : ℤ) → direction_of z ≡ Right → z <ℤ pos 0
negative_of_right (pos zero) e = cc
negative_of_right (pos (suc n)) e = cc
negative_of_right (negsuc n) e = omega (arith, ints)

-- both,
pub right_iff_negative : (z : ℤ) → (direction_of z ≡ Right) ↔ (z <ℤ pos 0)
right_iff_negative z = (negative_of_right z, right_of_negative z)

-- and a number is not to the left exactly if it is not positive
pub not_left_iff : (z : ℤ) → (direction_of z ≢ Left) ↔ (¬ (pos 0 <ℤ z))
not_left_iff z = (λ other more. other (left_of_positive z more), λ not_more left. not_more (positive_of_left z left))

-- the two as rules
pub ruleset right_turns = (negative_of_right, right_of_negative)

-- two numbers of one sign have one direction
pub direction_of_one_sign : (x y : ℤ) → OneSign x y → direction_of y ≡ direction_of x
direction_of_one_sign x y (inl h) = left_of_positive y h.1 ∙ sym (left_of_positive x h.0)
direction_of_one_sign x y (inr h) = right_of_negative y h.1 ∙ sym (right_of_negative x h.0)

-- zero is of no sign
pub zero_has_no_sign : (x y : ℤ) → x ≡ pos 0 → ¬ (OneSign x y)
zero_has_no_sign x y e (inl h) = omega (arith, ints, e, h.0)
zero_has_no_sign x y e (inr h) = omega (arith, ints, e, h.0)
