-- The readings of a script's records.
use Rattle.std.proofs.Common.{◌≡◌, ◌≢◌, ◌==◌, ℕ, ℤ, Bool, true, false, Option, Some, None, Ok, List, [], ◌∷◌, map, if◌then◌else◌, refl, rules, subst}
use Rattle.std.proofs.lemmas.Bool.{ne_eqb}
use Rattle.std.specs.Option.{option_or}
use Rattle.std.specs.Prelude.{IfOk, length}
use Rattle.geo_text.proofs.Commands.{command_is_well_sized, holds_by_word}
use Rattle.geo_text.proofs.Named.{text_of_named}
use Rattle.geo_text.specs.Limits.{IsLimited, limits_of}
use Rattle.geo_text.specs.Number.{number_of}
use Rattle.geo_text.specs.Reading.{IsWellSized, command_in_text, command_of, command_with, number_fault, reading_of, unless}
use Rattle.geo_text.specs.Words.{count_fault, takes_of, text_of, word_named}
use Rattle.geo_text.specs.declared.command.Bad.{Bad}
use Rattle.geo_text.specs.declared.command.Command.{Command}
use Rattle.geo_text.specs.declared.command.Command.TheVariants as command
use Rattle.geo_text.specs.declared.limits.Limits.{Limits}
use Rattle.geo_text.specs.declared.version.Version.{Version}
use Rattle.geo_text.specs.declared.version.Version.TheVariants as version
use Rattle.geo_text.specs.declared.word.Word.{Word}
use Rattle.geo_text.specs.declared.word.Word.TheVariants as word

-- ---- sizes

-- in both versions
pub limits_are_limited : (v : Version) → IsLimited (limits_of v)
limits_are_limited version.One = search rules
limits_are_limited version.Two = search rules

-- record k is well sized
pub reading_is_well_sized : (v : Version) (k : ℕ) (fields : List (List ℕ)) → IfOk (reading_of v k fields) IsWellSized
reading_is_well_sized version.One k fields = command_is_well_sized (limits_of version.One) (limits_are_limited version.One) fields
reading_is_well_sized version.Two k fields = first_or_well_sized (k == 0)
  where
    first_or_well_sized : (first : Bool) → IfOk (if first then Ok command.Two else command_of (limits_of version.Two) fields) IsWellSized
    first_or_well_sized true = tt
    first_or_well_sized false = command_is_well_sized (limits_of version.Two) (limits_are_limited version.Two) fields

-- ---- the version

-- no text is the word for version 2: it would be `geo`, which names none,
named_is_plain : (name : List ℕ) → word_named name ≢ Some word.Two
named_is_plain name e =
    let none : word_named (text_of word.Two) ≡ Some word.Two = subst (λ (text : List ℕ). word_named text ≡ Some word.Two) (text_of_named name word.Two e) e in
    cc none

-- and no other word gives that command
with_is_plain : (asked : Word) (numbers : List ℤ) → asked ≢ word.Two → command_with asked numbers ≢ command.Two
with_is_plain word.Two numbers plain e = plain refl
with_is_plain _ numbers plain e = cc e

unless_plain : (fault : Option Bad) (made : Command) → made ≢ command.Two → IfOk (unless fault made) (λ it. it ≢ command.Two)
unless_plain None made plain = plain
unless_plain (Some fault) made plain = tt

pub command_is_plain : (limits : Limits) (fields : List (List ℕ)) → IfOk (command_of limits fields) (λ made. made ≢ command.Two)
command_is_plain limits [] = tt
command_is_plain limits (name ∷ fields) =
    holds_by_word (λ made. made ≢ command.Two) (word_named name) (λ asked. command_in_text limits asked fields) (λ asked is.
    unless_plain (option_or (count_fault (takes_of limits asked) (length fields)) (number_fault limits.coordinate fields)) (command_with asked (map number_of fields))
    (with_is_plain asked (map number_of fields) (λ e. named_is_plain name (cc (is, e)))))

-- so no record but the first one asks for a version
pub later_is_plain : (v : Version) (k : ℕ) (fields : List (List ℕ)) → k ≢ 0 → IfOk (reading_of v k fields) (λ made. made ≢ command.Two)
later_is_plain version.Two k fields some = rw (ne_eqb k 0 some) (command_is_plain (limits_of version.Two) fields)
later_is_plain version.One k fields some = command_is_plain (limits_of version.One) fields
