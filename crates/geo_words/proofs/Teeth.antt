-- The reader of the option takes a text exactly if it is a number from 1 to 2,047.
use Rattle.std.proofs.Common.{◌≡◌, ◌==◌, ◌<◌, ◌≤◌, refl, subst, ℕ, Bool, true, false, List, [], ◌∷◌, eqb-true, arith, pos}
use Rattle.std.proofs.lemmas.Int.{ints}
use Rattle.std.specs.Prelude.{FitsSigned}
use Rattle.std.specs.Int.{w64}
use Rattle.std.specs.Str.Parse.{IsNumeral, digits_value, starts_with_minus, without_leading_plus}
use Rattle.clap.proofs.ValueTestLemmas.{Accepts-accepts, accepts-Accepts}
use Rattle.clap.specs.ValueTests.{accepts}
use Rattle.clap.specs.Words.{IsSignedIn}
use Rattle.geo_words.specs.CommandLine.{comb_reader}
use Rattle.geo_words.specs.Words.{IsTeeth}

pub accepted_is_teeth : (text : List ℕ) → accepts false comb_reader text ≡ true → (starts_with_minus text ≡ false) × IsTeeth text (digits_value 10 (without_leading_plus text))
accepted_is_teeth text e = go (starts_with_minus text) refl (accepts-Accepts false comb_reader text e)
  where
    go : (b : Bool) → starts_with_minus text ≡ b → IsSignedIn (pos 1) (pos 2047) text → (starts_with_minus text ≡ false) × IsTeeth text (digits_value 10 (without_leading_plus text))
    go true minus h =
        let low = rw minus at h.2 in
        absurd (omega (arith, ints))
    go false minus h =
        let low = rw minus at h.2 in
        let high = rw minus at h.3 in
        (minus, record { digits = rw minus at h.0; value = refl; least = omega (arith, ints); most = omega (arith, ints) })

pub no_minus : (text : List ℕ) (k : ℕ) → IsTeeth text k → starts_with_minus text ≡ false
no_minus [] k h = refl
no_minus (c ∷ cs) k h = go (c == 45) refl
  where
    go : (b : Bool) → (c == 45) ≡ b → (c == 45) ≡ false
    go true e =
        let digits = subst (λ d. IsNumeral 10 (without_leading_plus (d ∷ cs))) (eqb-true c 45 e) h.digits in
        let bad : 36 < 10 = digits.1.0 in
        absurd (omega arith)
    go false e = e

pub teeth_are_accepted : (text : List ℕ) (k : ℕ) → IsTeeth text k → accepts false comb_reader text ≡ true
teeth_are_accepted text k h =
    let minus = no_minus text k h in
    let least : 1 ≤ digits_value 10 (without_leading_plus text) = subst (λ (n : ℕ). 1 ≤ n) h.value h.least in
    let most : digits_value 10 (without_leading_plus text) ≤ 2047 = subst (λ (n : ℕ). n ≤ 2047) h.value h.most in
    let fits : FitsSigned w64 (pos (digits_value 10 (without_leading_plus text))) = record { sfits = omega arith } in
    Accepts-accepts false comb_reader text (rw minus h.digits, rw minus fits, rw minus (omega (arith, ints)), rw minus (omega (arith, ints)))
