-- How fields are read as numbers, each once. No public clause cites this module.
use Rattle.std.specs.Prelude.{◌≡◌, ◌+◌, ℕ, ℤ, pos, negsuc, min, List, map, drop, Some, None, Result, Ok, Err, ⊤}
use Rattle.plane.specs.declared.limits.TheConstants.{MAX_COORDINATE}
use Rattle.geo_text.specs.Number.{is_number, number_of}
use Rattle.geo_text.specs.Reading.{first_failing, first_fault}
use Rattle.geo_text.specs.Records.{plain_fields}
use Rattle.geo_text.specs.declared.command.Bad.{Bad}
use Rattle.csv.specs.Records.{Row}

-- the fields after the word
abbrev pub after_word : Row → List (List ℕ)
after_word row = drop 1 (plain_fields row)

-- the number, or the nearest one just past the coordinate limit
abbrev pub capped : ℤ → ℤ
capped (pos n) = pos (min n (MAX_COORDINATE + 1))
capped (negsuc n) = negsuc (min n MAX_COORDINATE)

-- what a field that is a number is read as
abbrev pub read_of : List ℕ → ℤ
read_of field = capped (number_of field)

-- the fields are numbers, and so are they read; or the first that is none is refused
abbrev pub Reads : List (List ℕ) → List ℤ → Result ⊤ Bad → Type 0
Reads fields numbers (Ok done) = (first_failing is_number 1 fields ≡ None) × (numbers ≡ map read_of fields)
Reads fields numbers (Err fault) = first_fault (first_failing is_number 1 fields) None ≡ Some fault
