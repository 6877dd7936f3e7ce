-- Fractions in lowest terms: each value has one.
use Rattle.std.proofs.Common.{◌≡◌, ◌<◌, ◌*◌, ◌/◌, ℕ, zero, suc, ℤ, pos, negsuc, neg_ℤ, ◌+ℤ◌, ◌*ℤ◌, ◌<ℤ◌, [], ◌∷◌, refl, sym, ◌∙◌, ap, arith}
use Rattle.std.proofs.lemmas.Int.{ints, quot-rem, unsigned_abs-mul}
use Rattle.std.proofs.lemmas.Nat.Gcd.{dvd-zero, dvd_refl, mod-eq-zero_of_dvd}
use Rattle.std.specs.Int.{◌∣◌, IsGcd}
use Rattle.std.specs.Prelude.{int_div, int_rem, unsigned_abs}
use Rattle.exact_frac.proofs.Divisors.{divided, greatest_is_gcd, same_second}
use Rattle.exact_frac.specs.Lowest.{IsLowest, common_divisor, lowest_den, lowest_num}
use Rattle.integer_algebra.proofs.Fractions.{fraction_eq_trans}
use Rattle.integer_algebra.proofs.Laws.{mul_comm, zero-mul}
use Rattle.integer_algebra.proofs.Polynomial.{same_value, var, ◌⊗◌}
use Rattle.integer_algebra.proofs.Signs.{cancel_equal, factor_positive}

-- a size, without the sign that was put before it
abs_neg : (n : ℕ) → unsigned_abs (neg_ℤ (pos n)) ≡ n
abs_neg zero = refl
abs_neg (suc n) = refl

-- to divide by a positive number divides the size
abs_div : (z : ℤ) (g : ℕ) → unsigned_abs (int_div z (pos g)) ≡ unsigned_abs z / g
abs_div (pos n) g = refl
abs_div (negsuc n) g = abs_neg (suc n / g)

-- a divisor leaves no rest
no_rest : (z : ℤ) (g : ℕ) → g ∣ unsigned_abs z → int_rem z (pos g) ≡ pos 0
no_rest (pos n) g h = ap pos (mod-eq-zero_of_dvd g h)
no_rest (negsuc n) g h = ap (λ k. neg_ℤ (pos k)) (mod-eq-zero_of_dvd g h)

without_rest : (a r z : ℤ) → a +ℤ r ≡ z → r ≡ pos 0 → a ≡ z
without_rest a r z h e = omega (arith, ints)

exact : (z : ℤ) (g : ℕ) → g ∣ unsigned_abs z → int_div z (pos g) *ℤ pos g ≡ z
exact z g h = without_rest _ _ z (quot-rem z (pos g)) (no_rest z g h)

-- two multiples of one number are as their quotients
across : (a d g num den : ℤ) → a *ℤ g ≡ num → d *ℤ g ≡ den → a *ℤ den ≡ num *ℤ d
across a d g num den h k = rw (← h, ← k) (same_value (var 0 ⊗ (var 1 ⊗ var 2)) (var 0 ⊗ var 2 ⊗ var 1) (a ∷ d ∷ g ∷ []) refl)

pub positive_size : (z : ℤ) → pos 0 <ℤ z → 0 < unsigned_abs z
positive_size (pos n) h = omega (arith, ints)
positive_size (negsuc n) h = omega arith

pub positive_number : (g : ℕ) → 0 < g → pos 0 <ℤ pos g
positive_number g h = omega (arith, ints)

-- a fraction whose parts are divided by their greatest common divisor is in lowest terms, and has the value that it had
pub reduced : (num den : ℤ) (g : ℕ) → pos 0 <ℤ den → 0 < g → IsGcd (unsigned_abs num) (unsigned_abs den) g
    → IsLowest (int_div num (pos g)) (int_div den (pos g)) × (int_div num (pos g) *ℤ den ≡ num *ℤ int_div den (pos g))
reduced num den g positive some is =
    let a = int_div num (pos g) in
    let d = int_div den (pos g) in
    let whole_num : a *ℤ pos g ≡ num = exact num g is.0 in
    let whole_den : d *ℤ pos g ≡ den = exact den g is.1 in
    let product : pos 0 <ℤ (pos g *ℤ d) = rw (mul_comm (pos g) d, whole_den) positive in
    let lowest : IsGcd (unsigned_abs a) (unsigned_abs d) 1 = rw (abs_div num g, abs_div den g) (divided _ _ g some is) in (
      record { positive = factor_positive (pos g) d (positive_number g some) product; lowest = lowest },
      across a d (pos g) num den whole_num whole_den,
    )

-- the parts in lowest terms are so, and have the value
pub lowest_terms : (num den : ℤ) → pos 0 <ℤ den → IsLowest (lowest_num num den) (lowest_den num den) × (lowest_num num den *ℤ den ≡ num *ℤ lowest_den num den)
unfolding lowest_num lowest_den
lowest_terms num den positive =
    let (is, some) = greatest_is_gcd (unsigned_abs num) (unsigned_abs den) (positive_size den positive) in
    reduced num den (common_divisor num den) positive some is

-- positive numbers of one size are equal
same_positive : (d e : ℤ) → pos 0 <ℤ d → pos 0 <ℤ e → unsigned_abs d ≡ unsigned_abs e → d ≡ e
same_positive (pos m) (pos n) h k same = ap pos same
same_positive (pos m) (negsuc n) h k same = absurd (omega (arith, ints))
same_positive (negsuc m) e h k same = absurd (omega (arith, ints))

-- a value has one fraction in lowest terms
pub one_lowest : (a d b e : ℤ) → IsLowest a d → IsLowest b e → a *ℤ e ≡ b *ℤ d → (a ≡ b) × (d ≡ e)
one_lowest a d b e h k same =
    let sizes : unsigned_abs a * unsigned_abs e ≡ unsigned_abs b * unsigned_abs d =
    sym (unsigned_abs-mul a e) ∙ ap unsigned_abs same ∙ unsigned_abs-mul b d in
    let same_den : d ≡ e = same_positive d e h.positive k.positive (same_second _ _ _ _ h.lowest k.lowest sizes) in
    let products : d *ℤ a ≡ d *ℤ b = mul_comm d a ∙ ap (λ z. a *ℤ z) same_den ∙ same ∙ mul_comm b d in
    (cancel_equal a b d h.positive products, same_den)

-- zero is 0 / 1
pub zero_lowest : (num den a d : ℤ) → pos 0 <ℤ den → IsLowest a d → a *ℤ den ≡ num *ℤ d → num ≡ pos 0 → (a ≡ pos 0) × (d ≡ pos 1)
zero_lowest num den a d positive h same nothing =
    let one : pos 0 <ℤ pos 1 = omega (arith, ints) in
    let whole : num *ℤ pos 1 ≡ pos 0 *ℤ den = rw (nothing, zero-mul, zero-mul) refl in
    one_lowest a d (pos 0) (pos 1) h (record { positive = one; lowest = (dvd-zero 1, dvd_refl 1, λ k p q. q) })
    (fraction_eq_trans a d num den (pos 0) (pos 1) h.positive positive one same whole)

-- so a fraction in lowest terms has the parts in lowest terms of its value,
pub lowest_of : (num den a d : ℤ) → pos 0 <ℤ den → IsLowest a d → a *ℤ den ≡ num *ℤ d → (a ≡ lowest_num num den) × (d ≡ lowest_den num den)
lowest_of num den a d positive h same =
    let (is, value) = lowest_terms num den positive in
    one_lowest a d (lowest_num num den) (lowest_den num den) h is
    (fraction_eq_trans a d num den (lowest_num num den) (lowest_den num den) h.positive positive is.positive same (sym value))

-- and two fractions with one value have the same parts in lowest terms
pub same_lowest : (x w y v : ℤ) → pos 0 <ℤ w → pos 0 <ℤ v → x *ℤ v ≡ y *ℤ w
    → (lowest_num x w ≡ lowest_num y v) × (lowest_den x w ≡ lowest_den y v)
same_lowest x w y v hw hv same =
    let (is, value) = lowest_terms x w hw in
    lowest_of y v (lowest_num x w) (lowest_den x w) hv is
    (fraction_eq_trans (lowest_num x w) (lowest_den x w) x w y v is.positive hw hv value same)
