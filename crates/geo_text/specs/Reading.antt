-- What a record asks for: a command, or the first refusal that holds. This project's own.
use Rattle.std.specs.Option.{option_or}
use Rattle.std.specs.Prelude.{◌≡◌, ℕ, ℤ, pos, ◌+◌, ◌≤◌, Bool, false, ◌&&◌, ◌==◌, nat_le, if◌then◌else◌, unsigned_abs}
use Rattle.std.specs.Prelude.{List, [], ◌∷◌, length, map, codes, slice_index_or, Option, Some, None, Result, Ok, Err}
use Rattle.std.specs.Str.{bytes_eq}
use Rattle.plane.specs.Point.{Point}
use Rattle.plane.specs.declared.limits.TheConstants.{MAX_CHAIN, MAX_CORNERS, MAX_HULL}
use Rattle.geo_text.specs.Limits.{limits_of}
use Rattle.geo_text.specs.Number.{is_coordinate, is_number, number_of}
use Rattle.geo_text.specs.Records.{Unread}
use Rattle.geo_text.specs.Version.{version_of}
use Rattle.geo_text.specs.Words.{count_fault, takes_of, word_named}
use Rattle.geo_text.specs.declared.command.Bad.{Bad}
use Rattle.geo_text.specs.declared.command.Bad.TheVariants as bad
use Rattle.geo_text.specs.declared.command.Command.{Command}
use Rattle.geo_text.specs.declared.command.Command.TheVariants as command
use Rattle.geo_text.specs.declared.limits.Limits.{Limits}
use Rattle.geo_text.specs.declared.version.Version.{Version}
use Rattle.geo_text.specs.declared.version.Version.TheVariants as version
use Rattle.geo_text.specs.declared.word.Word.{Word}
use Rattle.geo_text.specs.declared.word.Word.TheVariants as word

-- the place of the first field that fails a test, counted from a given place on
abbrev pub first_failing : (List ℕ → Bool) → ℕ → List (List ℕ) → Option ℕ
first_failing test place [] = None
first_failing test place (field ∷ fields) = if test field then first_failing test (place + 1) fields else Some place

-- the first field that is no number; if there is none, the first that passes the coordinate limit
abbrev pub first_fault : Option ℕ → Option ℕ → Option Bad
first_fault (Some place) too_great = Some (bad.Number place)
first_fault None (Some place) = Some (bad.Range place)
first_fault None None = None

abbrev pub number_fault : ℕ → List (List ℕ) → Option Bad
number_fault limit fields = first_fault (first_failing is_number 1 fields) (first_failing (is_coordinate limit) 1 fields)

-- the first of some numbers that passes the limit, by its place, which is counted from a given place on
abbrev pub range_fault : ℕ → ℕ → List ℤ → Option Bad
range_fault limit place [] = None
range_fault limit place (z ∷ numbers) = if nat_le (unsigned_abs z) limit then range_fault limit (place + 1) numbers else Some (bad.Range place)

-- a refusal, if there is one
abbrev pub unless : {T : Type 0} → Option Bad → T → Result T Bad
unless None value = Ok value
unless (Some fault) value = Err fault

-- ---- the command of a word and the numbers of its fields

-- each two numbers are a point, x before y
abbrev pub pairs_of : List ℤ → List Point
pairs_of [] = []
pairs_of (x ∷ []) = []
pairs_of (x ∷ y ∷ numbers) = record { x = x; y = y } ∷ pairs_of numbers

-- the number at a place, which is counted from 0
abbrev pub number_at : ℕ → List ℤ → ℤ
number_at place numbers = slice_index_or numbers place (pos 0)

-- the number at a place and the next one are a point
abbrev pub point_read_at : ℕ → List ℤ → Point
point_read_at place numbers = record { x = number_at place numbers; y = number_at (place + 1) numbers }

-- the command of a word and numbers, which are as many as it takes
abbrev pub command_with : Word → List ℤ → Command
command_with word.Polygon numbers = command.Polygon (pairs_of numbers)
command_with word.Inside numbers = command.Inside (point_read_at 0 numbers)
command_with word.Check numbers = command.Check (pairs_of numbers)
command_with word.Path numbers = command.Path (point_read_at 0 numbers) (point_read_at 2 numbers)
command_with word.Tree numbers = command.Tree (point_read_at 0 numbers)
command_with word.Reach numbers = command.Reach (point_read_at 0 numbers)
command_with word.See numbers = command.See (point_read_at 0 numbers)
command_with word.Kernel numbers = command.Kernel
command_with word.Hull numbers = command.Hull (pairs_of numbers)
command_with word.Two numbers = command.Two
command_with word.Round numbers = command.Round (pairs_of numbers)
command_with word.Guards numbers = command.Guards
command_with word.Pair numbers = command.Pair (number_at 0 numbers) (number_at 1 numbers)
command_with word.Sights numbers = command.Sights

-- the command that a word and some numbers are, or the first refusal
abbrev pub command_in_numbers : Limits → Word → List ℤ → Result Command Bad
command_in_numbers limits asked numbers =
    unless (option_or (count_fault (takes_of limits asked) (length numbers)) (range_fault limits.coordinate 1 numbers)) (command_with asked numbers)

-- the command that a word and some fields are, or the first refusal
abbrev pub command_in_text : Limits → Word → List (List ℕ) → Result Command Bad
command_in_text limits asked fields =
    unless (option_or (count_fault (takes_of limits asked) (length fields)) (number_fault limits.coordinate fields)) (command_with asked (map number_of fields))

-- ---- records

-- what is read of a word, or a refusal where there is none
abbrev pub by_word : {T : Type 0} → Option Word → (Word → Result T Bad) → Result T Bad
by_word None read = Err bad.Word
by_word (Some asked) read = read asked

-- the command that a record is by its word, or why it is none
abbrev pub command_of : Limits → List (List ℕ) → Result Command Bad
command_of limits [] = Err bad.Word
command_of limits (name ∷ fields) = by_word (word_named name) (λ asked. command_in_text limits asked fields)

-- a record of which all fields are numbers is read as the record in these numbers
abbrev pub OneReadingLaw : Type 0
OneReadingLaw = (limits : Limits) (name : List ℕ) (fields : List (List ℕ)) → first_failing is_number 1 fields ≡ None
    → command_of limits (name ∷ fields) ≡ by_word (word_named name) (λ asked. command_in_numbers limits asked (map number_of fields))

-- the record has just two fields, the word `geo` and the number 2
abbrev pub asks_two : List (List ℕ) → Bool
asks_two (word ∷ number ∷ []) = bytes_eq word (codes "geo") && bytes_eq number (codes "2")
asks_two _ = false

-- the version of a script that begins with this record
abbrev pub asked_version : List (List ℕ) → Version
asked_version fields = version_of (asks_two fields)

-- a script is of version 2 where its first record asks for it
abbrev pub script_version : List (List (List ℕ)) → Version
script_version [] = version.One
script_version (fields ∷ records) = asked_version fields

-- the command that record k of a script of a version is, counted from 0, or why it is none: the first one of version 2 has asked for it
abbrev pub reading_of : Version → ℕ → List (List ℕ) → Result Command Bad
reading_of version.One k fields = command_of (limits_of version.One) fields
reading_of version.Two k fields = if k == 0 then Ok command.Two else command_of (limits_of version.Two) fields

-- a list of points has as many as its command takes
abbrev pub IsWellSized : Command → Type 0
IsWellSized (command.Polygon points) = (3 ≤ length points) × (length points ≤ MAX_CORNERS)
IsWellSized (command.Check points) = (1 ≤ length points) × (length points ≤ MAX_CHAIN)
IsWellSized (command.Hull points) = (1 ≤ length points) × (length points ≤ MAX_HULL)
IsWellSized (command.Round points) = (1 ≤ length points) × (length points ≤ MAX_HULL)
IsWellSized other = Unit {0}

-- the next record was taken from a script, and read as this; the first one says of which version the script is
pub record TakesRecord (before after : Unread) (reading : Result Command Bad) : Type 0 where
  pub fields : List (List ℕ)
  pub first : before.left ≡ fields ∷ after.left
  pub counted : after.next ≡ before.next + 1
  pub version : after.version ≡ (if before.next == 0 then asked_version fields else before.version)
  pub reads : reading ≡ reading_of after.version before.next fields

-- the next command was taken from a script; `None` says that no record is left
abbrev pub TakesCommand : Unread → Unread → Option (Result Command Bad) → Type 0
TakesCommand before after None = (before.left ≡ []) × (after ≡ before)
TakesCommand before after (Some reading) = TakesRecord before after reading
