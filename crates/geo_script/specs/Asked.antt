-- What a question in whole numbers is answered. This project's own.
use Rattle.std.specs.Prelude.{◌≡◌, ℤ, List, Option, None, Some, Result, Err}
use Rattle.geo_text.specs.Limits.{limits_of}
use Rattle.geo_text.specs.Reading.{range_fault}
use Rattle.geo_text.specs.declared.command.Bad.{Bad}
use Rattle.geo_text.specs.declared.version.Version.{Version}

-- this refusal, if there is one, or else an answer of which this holds
abbrev pub IsRefusedOr : {T : Type 0} → Option Bad → (Result T Bad → Type 0) → Result T Bad → Type 0
IsRefusedOr (Some fault) Holds found = found ≡ Err fault
IsRefusedOr None Holds found = Holds found

-- the first of the numbers that passes the limit of a version is refused, by its place from 1; where none does, this holds of the answer
abbrev pub IsAskedWithin : {T : Type 0} → Version → List ℤ → (Result T Bad → Type 0) → Result T Bad → Type 0
IsAskedWithin version numbers Holds found = IsRefusedOr (range_fault (limits_of version).coordinate 1 numbers) Holds found
