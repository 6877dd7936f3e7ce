-- A numerator and its two words.
use Rattle.std.proofs.Common.{◌≡◌, ℕ, suc, ◌+◌, ◌-◌, ◌*◌, ◌/◌, ◌%◌, ◌^◌, ◌<◌, ◌≤◌, ℤ, pos, negsuc, ◌+ℤ◌, ◌*ℤ◌, ◌<ℤ◌, neg_ℤ, Fits, FitsSigned, w64, T, to_z, of_z}
use Rattle.std.proofs.Common.{refl, sym, ap, subst, arith, lit<, lt_of_le_of_lt}
use Rattle.std.proofs.Math.Nat.{div-le_self}
use Rattle.std.proofs.lemmas.Int.{ints, to_z-of_z}
use Rattle.std.proofs.lemmas.Nat.{div-add-mod', mod_below, shr_below}
use Rattle.std.specs.Int.{int_div_euclid, int_rem_euclid, w128}
use Rattle.std.specs.Prelude.{unsigned_abs}
use lib.Signed.{non_neg}
use Rattle.exact_frac.specs.Lowest.{common_divisor, lowest_den}
use Rattle.geo_c.specs.Fractions.{Fraction, high_word}

under_zero : (q r w n : ℕ) → q * w + r ≡ n → r < w → neg_ℤ (pos (suc q * w)) +ℤ pos (w - 1 - r) ≡ negsuc n
under_zero q r w n is small = omega (arith, ints)

sum_of : (z : ℤ) (w : ℕ) → 0 < w → int_div_euclid z (pos w) *ℤ pos w +ℤ int_rem_euclid z (pos w) ≡ z
sum_of (pos n) w some = ap pos (div-add-mod' n w)
sum_of (negsuc n) w some = under_zero (n / w) (n % w) w n (div-add-mod' n w) (mod_below n w some)

pub sum_of_words : (z : ℤ) → high_word z *ℤ pos (2 ^ 64) +ℤ int_rem_euclid z (pos (2 ^ 64)) ≡ z
sum_of_words z = sum_of z (2 ^ 64) (lit< tt)

-- what is left is not below 0
rest_positive : (z : ℤ) (w : ℕ) → pos (unsigned_abs (int_rem_euclid z (pos w))) ≡ int_rem_euclid z (pos w)
rest_positive (pos n) w = refl
rest_positive (negsuc n) w = refl

-- the upper word fits
pub high_fits : (z : ℤ) → FitsSigned w128 z → FitsSigned w64 (high_word z)
high_fits (pos n) fits = record { sfits = shr_below n 63 64 fits.sfits }
high_fits (negsuc n) fits = record { sfits = shr_below n 63 64 fits.sfits }

-- the two words as they went through casts
pub numerator_is : (z hi lo : ℤ) → FitsSigned w128 z → FitsSigned w128 hi → FitsSigned w128 lo → hi ≡ high_word z → lo ≡ int_rem_euclid z (pos (2 ^ 64))
    → to_z w64 (of_z w64 (to_z w128 (of_z w128 hi))) *ℤ pos (2 ^ 64) +ℤ pos (unsigned_abs (to_z w128 (of_z w128 lo))) ≡ z
numerator_is z hi lo fits fits_hi fits_lo is_hi is_lo =
    let narrow : FitsSigned w64 hi = rw is_hi (high_fits z fits) in
    rw (to_z-of_z w128 hi fits_hi, to_z-of_z w64 hi narrow, to_z-of_z w128 lo fits_lo, is_hi, is_lo, rest_positive z (2 ^ 64)) (sum_of_words z)

-- a denominator is no greater in lowest terms
lowest_den_small : (num den : ℤ) → pos 0 <ℤ den → unsigned_abs (lowest_den num den) ≤ unsigned_abs den
unfolding lowest_den
lowest_den_small num (pos n) h = div-le_self n (common_divisor num (pos n))
lowest_den_small num (negsuc n) h = absurd (omega (arith, ints))

-- so it fits one word
pub den_fits : (num den d : ℤ) → pos 0 <ℤ den → unsigned_abs den < 2 ^ 64 → pos 0 <ℤ d → d ≡ lowest_den num den → T (non_neg d) × Fits w64 (unsigned_abs d)
den_fits num den (pos n) h small positive is =
    let below = lowest_den_small num den h in
    let least : n ≤ unsigned_abs den = subst (λ z. unsigned_abs z ≤ unsigned_abs den) (sym is) below in
    (tt, record { fits = lt_of_le_of_lt least small })
den_fits num den (negsuc n) h small positive is = absurd (omega (arith, ints))

pub size_is : (d : ℤ) → pos 0 <ℤ d → pos (unsigned_abs d) ≡ d
size_is (pos n) h = refl
size_is (negsuc n) h = absurd (omega (arith, ints))

-- a fraction of its two parts
abbrev pub fraction : ℤ → ℤ → Fraction
fraction num den = record { numerator = num; denominator = den }
