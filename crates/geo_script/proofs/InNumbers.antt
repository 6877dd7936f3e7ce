-- A record in numbers, by its word.
use Rattle.std.proofs.Common.{◌≡◌, ◌≢◌, Bool, true, false, ℤ, List, [], ◌∷◌, Result, refl, subst, sym}
use Rattle.std.specs.Prelude.{IfOk}
use Rattle.geo_text.specs.Limits.{limits_of}
use Rattle.geo_text.specs.Reading.{IsWellSized, command_in_numbers}
use Rattle.geo_text.specs.declared.command.Bad.{Bad}
use Rattle.geo_text.specs.declared.command.Command.{Command}
use Rattle.geo_text.specs.declared.version.Version.{Version}
use Rattle.geo_text.specs.declared.word.Word.{Word}
use Rattle.geo_text.specs.declared.word.Word.TheVariants as word
use Rattle.geo_script.specs.InNumbers.{two_in, worded_in}

-- `Two` is well sized
pub two_is_well_sized : (known : Bool) (numbers : List ℤ) → IfOk (two_in known numbers) IsWellSized
two_is_well_sized false [] = tt
two_is_well_sized false (z ∷ numbers) = tt
two_is_well_sized true [] = tt
two_is_well_sized true (z ∷ numbers) = tt

-- any other word is read as in every script
plain_word : (version : Version) (known : Bool) (numbers : List ℤ) (asked : Word) → asked ≢ word.Two
    → worded_in version known numbers asked ≡ command_in_numbers (limits_of version) asked numbers
plain_word version known numbers word.Two plain = absurd (plain refl)
plain_word version known numbers _ plain = refl

pub read_plain : {E : Type 0} (version : Version) (known : Bool) (numbers : List ℤ) (asked : Word) (read : Result (Result Command Bad) E) → asked ≢ word.Two
    → IfOk read (λ reading. reading ≡ command_in_numbers (limits_of version) asked numbers) → IfOk read (λ reading. reading ≡ worded_in version known numbers asked)
read_plain version known numbers asked read plain is =
    subst (λ (it : Result Command Bad). IfOk read (λ reading. reading ≡ it)) (sym (plain_word version known numbers asked plain)) is
