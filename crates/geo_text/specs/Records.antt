-- The records of a script, as lists of fields. This project's own, over the records of `csv`.
use Rattle.std.specs.Prelude.{◌≡◌, ℕ, Bool, false, ◌||◌, ◌==◌, if◌then◌else◌, List, [], ◌∷◌, map, reverse}
use Rattle.csv.specs.Machine.{ends_at_end, step}
use Rattle.csv.specs.Reading.{default_config, records, strip_bom}
use Rattle.csv.specs.Records.{Row, fields_of}
use Rattle.csv.specs.declared.parser.State.{State}
use Rattle.csv.specs.declared.parser.State.TheVariants as st
use Rattle.geo_text.specs.declared.version.Version.{Version}

-- a space or a tab
abbrev pub is_blank : ℕ → Bool
is_blank c = (c == 32) || (c == 9)

-- without the blanks at the front
abbrev pub without_front_blanks : List ℕ → List ℕ
without_front_blanks [] = []
without_front_blanks (c ∷ cs) = if is_blank c then without_front_blanks cs else c ∷ cs

-- without the blanks at the front and at the end
abbrev pub without_blanks : List ℕ → List ℕ
without_blanks field = reverse (without_front_blanks (reverse (without_front_blanks field)))

-- the fields of a record that `csv` gave, without their blanks
abbrev pub plain_fields : Row → List (List ℕ)
plain_fields row = map without_blanks (fields_of row)

-- the records that these bytes are in a script that has bytes before them: commas between fields, double quotes, records of any
-- length, and no header; a byte order mark is text
abbrev pub later_records_of : List ℕ → List (List (List ℕ))
later_records_of bytes = map (λ fields. map without_blanks fields) (records default_config bytes)

-- the records that these bytes are: so are they after a byte order mark at the front, which is dropped
abbrev pub records_of : List ℕ → List (List (List ℕ))
records_of bytes = later_records_of (strip_bom bytes)

-- where `csv` stands after these bytes
abbrev pub reader_after : State → List ℕ → State
reader_after state [] = state
reader_after state (c ∷ bytes) = reader_after (step default_config state c).0 bytes

-- these bytes end at the end of a record: their end ends none, since the last one has ended by then
abbrev pub AreWhole : List ℕ → Type 0
AreWhole bytes = ends_at_end (reader_after st.StartRecord (strip_bom bytes)) ≡ false

-- what is left of a script: its records, the number of the next one, the version of the script, which its first record says, and
-- whether it has failed
pub record Unread : Type 0 where
  pub left : List (List (List ℕ))
  pub next : ℕ
  pub version : Version
  pub failed : Bool
