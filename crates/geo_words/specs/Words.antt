-- What the words of the command line ask for: those after the program's name, each as its bytes. This project's own.
use Rattle.std.specs.Prelude.{◌≡◌, ◌≤◌, ℕ, List, [], ◌∷◌, ◌++◌, codes}
use Rattle.std.specs.Str.Parse.{IsNumeral, digits_value, without_leading_plus}
use Rattle.geo_gen.specs.declared.combs.TheConstants.{MAX_TEETH}
use Rattle.geo_words.specs.declared.words.Asked.{Asked}
use Rattle.geo_words.specs.declared.words.Asked.TheVariants as asked

-- the text is the number k, of teeth that a comb may have: an optional plus sign, and one or more decimal digits
pub record IsTeeth (text : List ℕ) (k : ℕ) : Type 0 where
  pub digits : IsNumeral 10 (without_leading_plus text)
  pub value : k ≡ digits_value 10 (without_leading_plus text)
  pub least : 1 ≤ k
  pub most : k ≤ MAX_TEETH

-- there is no word: the answers to a script are asked for
abbrev pub AsksScript : List (List ℕ) → Type 0
AsksScript words = words ≡ []

-- there are the two words `--comb` and K, or the one word `--comb=K`: the comb of k is asked for
pub data AsksComb (words : List (List ℕ)) (k : ℕ) : Type 0 where
  apart : (text : List ℕ) → words ≡ codes "--comb" ∷ text ∷ [] → IsTeeth text k → AsksComb words k
  joined : (text : List ℕ) → words ≡ (codes "--comb=" ++ text) ∷ [] → IsTeeth text k → AsksComb words k

-- one of the two is asked for
pub data IsTaken (words : List (List ℕ)) : Type 0 where
  script : AsksScript words → IsTaken words
  comb : (k : ℕ) → AsksComb words k → IsTaken words

-- this is asked for
abbrev pub IsAskedBy : List (List ℕ) → Asked → Type 0
IsAskedBy words asked.Script = AsksScript words
IsAskedBy words (asked.Comb k) = AsksComb words k
