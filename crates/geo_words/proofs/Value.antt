-- What the value of the option that was found is asked for.
use Rattle.std.proofs.Common.{◌≡◌, ◌^◌, ◌<◌, refl, sym, ap, subst, ◌∙◌, inl, inr, ◌⊎◌, ℕ, false, true, List, [], ◌∷◌, ◌++◌, codes, Option, Some, None, arith}
use Rattle.std.specs.Str.Parse.{ExplainsUnsignedError, HasUnsignedDigitsIfOk, ParsesUnsigned, digits_value, without_leading_plus}
use Rattle.clap.proofs.WalkLemmas.{one_text-rows}
use Rattle.clap.specs.Faults.{fault_of}
use Rattle.clap.specs.Lexer.{without_minus}
use Rattle.clap.specs.Matches.{ReadsOne, one_text}
use Rattle.clap.specs.ValueTests.{accepts}
use Rattle.clap.specs.Walk.{one_of, rows_of}
use Rattle.clap.specs.Words.{matches_of}
use Rattle.clap.specs.declared.parser.matches.Found.{Found}
use Rattle.geo_words.proofs.Parsed.{IsRead, given, nothing, taken_is_read}
use Rattle.geo_words.proofs.Taken.{no_hyphen}
use Rattle.geo_words.proofs.Teeth.{accepted_is_teeth}
use Rattle.geo_words.specs.CommandLine.{comb_command, comb_reader, has_dashes}
use Rattle.geo_words.specs.Words.{AsksComb, AsksScript, IsTeeth, apart, joined}

-- the number of teeth that is asked for, or none for a script
abbrev pub Asks : List (List ℕ) → Option ℕ → Type 0
Asks words None = AsksScript words
Asks words (Some k) = AsksComb words k

asks_comb : (words : List (List ℕ)) (text : List ℕ) (k : ℕ) → IsTeeth text k → (words ≡ codes "--comb" ∷ text ∷ []) ⊎ (words ≡ (codes "--comb=" ++ text) ∷ []) → AsksComb words k
asks_comb words text k h (inl e) = apart text e h
asks_comb words text k h (inr e) = joined text e h

-- the number is what the text reads as
abbrev IsReadOf : List ℕ → Option ℕ → Type 0
IsReadOf = ReadsOne (λ u x. ParsesUnsigned 32 10 u x × ExplainsUnsignedError 10 u x × HasUnsignedDigitsIfOk u x)

module _ (words : List (List ℕ)) (f : Found) (rows : rows_of f ≡ matches_of comb_command words) (number : Option ℕ)
    (absent : one_text f (codes "comb") ≡ None → number ≡ None) (present : (t : List ℕ) → one_text f (codes "comb") ≡ Some t → IsReadOf t number) where
  value_asks : (text : List ℕ) → (words ≡ codes "--comb" ∷ text ∷ []) ⊎ (words ≡ (codes "--comb=" ++ text) ∷ []) → accepts false comb_reader text ≡ true
      → IsReadOf text number → Asks words number
  value_asks text form accepted = go number
    where
      go : (r : Option ℕ) → IsReadOf text r → Asks words r
      go (Some v) reads =
          let teeth = (accepted_is_teeth text accepted).1 in
          asks_comb words text v (subst (IsTeeth text) (sym reads.0.1) teeth) form
      go None reads =
          let teeth = (accepted_is_teeth text accepted).1 in
          let most = teeth.most in
          let small : digits_value 10 (without_leading_plus text) < 2 ^ 32 = omega arith in
          absurd (reads.1.0 (teeth.digits, small))

  read_asks : IsRead words (rows_of f) → Asks words number
  read_asks (nothing none empty) =
      let is = absent (one_text-rows f (codes "comb") ∙ ap (one_of (codes "comb")) empty) in
      rw is none
  read_asks (given text form accepted one) =
      let plain : without_minus text ≡ text = rw (no_hyphen text (accepted_is_teeth text accepted).0) refl in
      value_asks text form accepted (present text (one_text-rows f (codes "comb") ∙ ap (one_of (codes "comb")) one ∙ ap (λ t. Some t) plain))

  pub taken_asks : has_dashes words ≡ false → fault_of comb_command words ≡ [] → Asks words number
  taken_asks d none = read_asks (subst (IsRead words) (sym rows) (taken_is_read words d none))
