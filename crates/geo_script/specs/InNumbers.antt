-- A record in numbers: a number for its word, and the numbers of its fields. This project's own.
use Rattle.std.specs.Prelude.{ℕ, ℤ, Bool, false, List, [], Result, Ok, Err}
use Rattle.geo_text.specs.Limits.{limits_of}
use Rattle.geo_text.specs.Reading.{by_word, command_in_numbers}
use Rattle.geo_text.specs.Words.{word_of}
use Rattle.geo_text.specs.declared.command.Bad.{Bad}
use Rattle.geo_text.specs.declared.command.Bad.TheVariants as bad
use Rattle.geo_text.specs.declared.command.Command.{Command}
use Rattle.geo_text.specs.declared.command.Command.TheVariants as command
use Rattle.geo_text.specs.declared.version.Version.{Version}
use Rattle.geo_text.specs.declared.word.Word.{Word}
use Rattle.geo_text.specs.declared.word.Word.TheVariants as word

-- `Two` takes nothing, and is a word only where no record came before
abbrev pub two_in : Bool → List ℤ → Result Command Bad
two_in false [] = Ok command.Two
two_in known others = Err bad.Word

-- the command that a word and the numbers of its fields are in a script of a version, where it was known before or not, or the first refusal
abbrev pub worded_in : Version → Bool → List ℤ → Word → Result Command Bad
worded_in version known numbers word.Two = two_in known numbers
worded_in version known numbers asked = command_in_numbers (limits_of version) asked numbers

-- the same by the number of the word; one that is none of a word is refused
abbrev pub record_in_numbers : Version → Bool → ℕ → List ℤ → Result Command Bad
record_in_numbers version known number numbers = by_word (word_of number) (worded_in version known numbers)
