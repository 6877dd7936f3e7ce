-- The texts of words, and the words that they name: each is the other's inverse.
use Rattle.std.proofs.Common.{◌≡◌, ◌∙◌, Bool, true, false, ℕ, if◌then◌else◌, Option, Some, List, [], ◌∷◌, refl, ap, arith, drop, get_or, length, ◌<◌, ◌+◌}
use Rattle.std.proofs.lemmas.List.{at_drop_more, drop_all}
use Rattle.std.proofs.lemmas.Slice.Eq.{bytes_eq-Decides}
use Rattle.std.specs.Str.{bytes_eq}
use Rattle.geo_text.specs.Words.{named_in, named_words, text_of, word_named}
use Rattle.geo_text.specs.declared.word.Word.{Word}

-- the text is that of the first word, or names one of the others
of_first : (first asked : Word) (text : List ℕ) (rest : Option Word) → (rest ≡ Some asked → text ≡ text_of asked) → (same : Bool)
    → bytes_eq text (text_of first) ≡ same → (if same then Some first else rest) ≡ Some asked → text ≡ text_of asked
of_first first asked text rest others true is e = let it : first ≡ asked = cc e in (bytes_eq-Decides text (text_of first)).0 is ∙ ap text_of it
of_first first asked text rest others false is e = others e

text_of_found : (words : List Word) (text : List ℕ) (asked : Word) → named_in words text ≡ Some asked → text ≡ text_of asked
text_of_found [] text asked e = cc e
text_of_found (first ∷ rest) text asked e =
    of_first first asked text (named_in rest text) (λ h. text_of_found rest text asked h) (bytes_eq text (text_of first)) refl e

-- a text that names a word is that word's,
pub text_of_named : (text : List ℕ) (asked : Word) → word_named text ≡ Some asked → text ≡ text_of asked
text_of_named text asked e = text_of_found named_words text asked e

-- a text is its bytes
front : (text : List ℕ) (k c : ℕ) (rest : List ℕ) → k < length text → get_or text k 0 ≡ c → drop (k + 1) text ≡ rest → drop k text ≡ c ∷ rest
front text k c rest within at after = at_drop_more (λ xs. xs) text k 0 within ∙ (rw (at, after) refl)

module _ (text : List ℕ) (a b c d e f : ℕ) (at0 : get_or text 0 0 ≡ a) (at1 : get_or text 1 0 ≡ b) (at2 : get_or text 2 0 ≡ c)
    (at3 : get_or text 3 0 ≡ d) (at4 : get_or text 4 0 ≡ e) (at5 : get_or text 5 0 ≡ f) where
  from_six : (rest : List ℕ) → 5 < length text → drop 6 text ≡ rest → text ≡ a ∷ b ∷ c ∷ d ∷ e ∷ f ∷ rest
  from_six rest long after =
      front text 0 a _ (omega (arith, long)) at0 (front text 1 b _ (omega (arith, long)) at1 (front text 2 c _ (omega (arith, long)) at2
      (front text 3 d _ (omega (arith, long)) at3 (front text 4 e _ (omega (arith, long)) at4 (front text 5 f rest (omega (arith, long)) at5 after)))))

  pub six_bytes : length text ≡ 6 → text ≡ a ∷ b ∷ c ∷ d ∷ e ∷ f ∷ []
  six_bytes size = from_six [] (omega (arith, size)) (drop_all 6 text (omega (arith, size)))

  pub seven_bytes : (g : ℕ) → get_or text 6 0 ≡ g → length text ≡ 7 → text ≡ a ∷ b ∷ c ∷ d ∷ e ∷ f ∷ g ∷ []
  seven_bytes g at6 size =
      from_six (g ∷ []) (omega (arith, size)) (front text 6 g [] (omega (arith, size)) at6 (drop_all 7 text (omega (arith, size))))
