-- The words of records: the number and the text of each, and what it takes. This project's own.
use Rattle.std.specs.Prelude.{◌≡◌, ℕ, ◌/◌, ◌%◌, ◌==◌, nat_lt, if◌then◌else◌, List, [], ◌∷◌, codes, Option, Some, None}
use Rattle.std.specs.Str.{bytes_eq}
use Rattle.plane.specs.declared.limits.TheConstants.{MAX_HULL}
use Rattle.geo_text.specs.Limits.{IsLimited}
use Rattle.geo_text.specs.declared.command.Bad.{Bad}
use Rattle.geo_text.specs.declared.command.Bad.TheVariants as bad
use Rattle.geo_text.specs.declared.limits.Limits.{Limits}
use Rattle.geo_text.specs.declared.takes.Takes.{Takes}
use Rattle.geo_text.specs.declared.takes.Takes.TheVariants as takes
use Rattle.geo_text.specs.declared.word.Word.{Word}
use Rattle.geo_text.specs.declared.word.Word.TheVariants as word

-- the word with a number; they are numbered from 0 on, in the order of the commands
abbrev pub word_of : ℕ → Option Word
word_of number =
    if number == 0 then Some word.Polygon
    else if number == 1 then Some word.Inside
    else if number == 2 then Some word.Check
    else if number == 3 then Some word.Path
    else if number == 4 then Some word.Tree
    else if number == 5 then Some word.Reach
    else if number == 6 then Some word.See
    else if number == 7 then Some word.Kernel
    else if number == 8 then Some word.Hull
    else if number == 9 then Some word.Two
    else if number == 10 then Some word.Round
    else if number == 11 then Some word.Guards
    else if number == 12 then Some word.Pair
    else if number == 13 then Some word.Sights
    else None

-- the text of a word
abbrev pub text_of : Word → List ℕ
text_of word.Polygon = codes "polygon"
text_of word.Inside = codes "inside"
text_of word.Check = codes "check"
text_of word.Path = codes "path"
text_of word.Tree = codes "tree"
text_of word.Reach = codes "reach"
text_of word.See = codes "see"
text_of word.Kernel = codes "kernel"
text_of word.Hull = codes "hull"
text_of word.Two = codes "geo"
text_of word.Round = codes "round"
text_of word.Guards = codes "guards"
text_of word.Pair = codes "pair"
text_of word.Sights = codes "sights"

-- the words that a text names; version 2 is none of them, since the first record of a script alone asks for it, by its text and its number
abbrev pub named_words : List Word
named_words =
    word.Polygon ∷
    word.Inside ∷
    word.Check ∷
    word.Path ∷
    word.Tree ∷
    word.Reach ∷
    word.See ∷
    word.Kernel ∷
    word.Hull ∷
    word.Round ∷
    word.Guards ∷
    word.Pair ∷
    word.Sights ∷
    []

-- the first of some words that has a text
abbrev pub named_in : List Word → List ℕ → Option Word
named_in [] text = None
named_in (asked ∷ rest) text = if bytes_eq text (text_of asked) then Some asked else named_in rest text

-- the word with a text
abbrev pub word_named : List ℕ → Option Word
word_named text = named_in named_words text

-- what a word takes within some limits
abbrev pub takes_of : Limits → Word → Takes
takes_of limits word.Polygon = takes.Points 3 limits.corners
takes_of limits word.Inside = takes.Numbers 2
takes_of limits word.Check = takes.Points 1 limits.chain
takes_of limits word.Path = takes.Numbers 4
takes_of limits word.Tree = takes.Numbers 2
takes_of limits word.Reach = takes.Numbers 2
takes_of limits word.See = takes.Numbers 2
takes_of limits word.Kernel = takes.Numbers 0
takes_of limits word.Hull = takes.Points 1 MAX_HULL
takes_of limits word.Two = takes.Numbers 0
takes_of limits word.Round = takes.Points 1 MAX_HULL
takes_of limits word.Guards = takes.Numbers 0
takes_of limits word.Pair = takes.Numbers 2
takes_of limits word.Sights = takes.Numbers 0

-- what is wrong with a count of fields, if anything; each two fields of a list are a point
abbrev pub count_fault : Takes → ℕ → Option Bad
count_fault (takes.Numbers wanted) count = if count == wanted then None else Some bad.Fields
count_fault (takes.Points least most) count =
    if (count % 2) == 1 then Some bad.Fields
    else if nat_lt (count / 2) least then Some bad.Few
    else if nat_lt most (count / 2) then Some bad.Many
    else None

-- a word takes so many fields within the limits of some version
pub record IsCountOf (asked : Word) (count : ℕ) : Type 0 where
  pub limits : Limits
  pub limited : IsLimited limits
  pub right : count_fault (takes_of limits asked) count ≡ None
