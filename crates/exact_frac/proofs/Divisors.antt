-- Greatest common divisors of natural numbers, and numbers whose greatest common divisor is 1.
use Rattle.std.proofs.Common.{◌≡◌, ◌≤◌, ◌<◌, ◌*◌, ◌/◌, ◌%◌, ◌==◌, ◌&&◌, ℕ, zero, suc, Bool, true, false, if◌then◌else◌, refl, sym, ◌∙◌, ap, subst, arith}
use Rattle.std.proofs.Common.{eq-or-lt_of_le, inl, inr, mul_comm, mul-one, true≢false}
use Rattle.std.proofs.Math.Nat.{dvd-mul_left, dvd-mul_right, dvd_of_mul-dvd-mul_left, eq-one_of_dvd-one, mod-one, mul-div_cancel', mul-dvd-mul_left, pos_of_dvd_of_pos}
use Rattle.std.proofs.lemmas.Bool.Decides.{Decides-eqb}
use Rattle.std.proofs.lemmas.Nat.Gcd.{IsGcd-from_mod, IsGcd-from_zero, dvd-zero, dvd_antisymm, dvd_of_mod-eq-zero, le_from_IsGcd, le_of_dvd, mod-eq-zero_of_dvd}
use Rattle.std.specs.Bool.{Decides}
use Rattle.std.specs.Int.{◌∣◌, IsGcd}
use Rattle.exact_frac.specs.Lowest.{greatest_divisor}

-- Euclid's algorithm ends,
euclid : (fuel m n : ℕ) → n < fuel → (g : ℕ) × IsGcd m n g
euclid zero m n h = absurd (omega arith)
euclid (suc fuel) m zero h = (m, IsGcd-from_zero m zero refl)
euclid (suc fuel) m (suc n) h =
    let smaller : m % suc n < fuel = omega arith in
    let (g, is) = euclid fuel (suc n) (m % suc n) smaller in
    (g, IsGcd-from_mod m (suc n) g is)

-- so two numbers have a greatest common divisor,
has_gcd : (m n : ℕ) → (g : ℕ) × IsGcd m n g
has_gcd m n = euclid (suc n) m n (omega arith)

-- 1 where both are divided by it
pub divided : (m n g : ℕ) → 0 < g → IsGcd m n g → IsGcd (m / g) (n / g) 1
divided m n g some is =
    let first : g * (m / g) ≡ m = mul-div_cancel' g is.0 in
    let second : g * (n / g) ≡ n = mul-div_cancel' g is.1 in
    let one : (k : ℕ) → 1 ∣ k = λ k. dvd_of_mod-eq-zero 1 (mod-one k) in (
      one (m / g),
      one (n / g),
      λ d p q.
          let common : g * d ∣ g = is.2 (g * d) (subst (λ k. g * d ∣ k) first (mul-dvd-mul_left d g p))
          (subst (λ k. g * d ∣ k) second (mul-dvd-mul_left d g q)) in
          dvd_of_mul-dvd-mul_left d some (subst (λ k. g * d ∣ k) (sym (mul-one g)) common),
    )

-- what divides a product beside a factor of it divides the other factor
beside_factor : (d e k g : ℕ) → 0 < e → e * k ≡ g → g ∣ d * e → k ∣ d
beside_factor d e k g some whole divides =
    dvd_of_mul-dvd-mul_left k some (subst (λ n. e * k ∣ n) (mul_comm d e) (subst (λ n. n ∣ d * e) (sym whole) divides))

-- a number that divides a product, and has no divisor in common with the one factor, divides the other
divides_other : (a d e : ℕ) → IsGcd a d 1 → d ∣ a * e → d ∣ e
divides_other a d zero h divides = dvd-zero d
divides_other a d (suc e) h divides =
    let (g, is) = has_gcd (a * suc e) (d * suc e) in
    let k = g / suc e in
    let some : 0 < suc e = omega arith in
    let whole : suc e * k ≡ g = mul-div_cancel' (suc e) (is.2 (suc e) (dvd-mul_left (suc e) a) (dvd-mul_left (suc e) d)) in
    let one : k ≡ 1 = eq-one_of_dvd-one (h.2 k (beside_factor a (suc e) k g some whole is.0) (beside_factor d (suc e) k g some whole is.1)) in
    let same : g ≡ suc e = sym whole ∙ ap (λ n. suc e * n) one ∙ mul-one (suc e) in
    subst (λ n. d ∣ n) same (is.2 d divides (dvd-mul_right d (suc e)))

-- two pairs with one quotient, each with no divisor in common, have the same second number
pub same_second : (a d b e : ℕ) → IsGcd a d 1 → IsGcd b e 1 → a * e ≡ b * d → d ≡ e
same_second a d b e h k same =
    dvd_antisymm
    (divides_other a d e h (subst (λ n. d ∣ n) (sym same) (dvd-mul_left d b)))
    (divides_other b e d k (subst (λ n. e ∣ n) same (dvd-mul_left e a)))

-- a number is taken if two tests pass
chosen : {A B : Type 0} (s t : Bool) (k rest g : ℕ) → Decides s A → Decides t B → (A → B → k ≡ g)
    → (¬ (A × B) → rest ≡ g) → (if s && t then k else rest) ≡ g
chosen true true k rest g first second taken passed = taken (first.0 refl) (second.0 refl)
chosen true false k rest g first second taken passed = passed (λ h. true≢false (sym (second.1 h.1)))
chosen false t k rest g first second taken passed = passed (λ h. true≢false (sym (first.1 h.0)))

-- the greatest number that divides both, up to a bound that is great enough, is their greatest common divisor
greatest_up_to : (m n g : ℕ) → 0 < g → IsGcd m n g → (most : ℕ) → g ≤ most → greatest_divisor m n most ≡ g
unfolding greatest_divisor
greatest_up_to m n g some is zero below = absurd (omega arith)
greatest_up_to m n g some is (suc most) below =
    chosen ((m % suc most) == 0) ((n % suc most) == 0) (suc most) (greatest_divisor m n most) g
    (Decides-eqb (m % suc most) 0) (Decides-eqb (n % suc most) 0)
    (λ p q.
    let least : suc most ≤ g = le_from_IsGcd m n g (suc most) is some (dvd_of_mod-eq-zero (suc most) p) (dvd_of_mod-eq-zero (suc most) q) in
    omega arith)
    (λ other. greatest_up_to m n g some is most (elim (eq-or-lt_of_le below) [
      | inl same ↦ absurd (other (mod-eq-zero_of_dvd (suc most) (subst (λ k. k ∣ m) same is.0), mod-eq-zero_of_dvd (suc most) (subst (λ k. k ∣ n) same is.1)))
      | inr less ↦ omega arith
    ]))

-- so is the one up to the second number
pub greatest_is_gcd : (m n : ℕ) → 0 < n → IsGcd m n (greatest_divisor m n n) × (0 < greatest_divisor m n n)
greatest_is_gcd m n some =
    let (g, is) = has_gcd m n in
    let positive : 0 < g = pos_of_dvd_of_pos is.1 some in
    let same = greatest_up_to m n g positive is n (le_of_dvd some is.1) in
    rw same (is, positive)
