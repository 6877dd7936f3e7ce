-- How a script lays out what is left of it. No public clause cites this module.
use Rattle.std.specs.Borrow.{Bor}
use Rattle.std.specs.Io.Chain.{chain_remaining}
use Rattle.std.specs.Prelude.{◌≡◌, ◌+◌, ◌<◌, ◌^◌, true, false, if◌then◌else◌, ℕ, List, [], ◌∷◌, length, map, Option, Some, None}
use Rattle.std.specs.declared.io.traits.Chain.{Chain}
use Rattle.geo_text.specs.Records.{Unread, without_blanks}
use Rattle.geo_text.specs.declared.script.Script.TheInside.{Inside}
use Rattle.csv.specs.Reading.{Ready, default_config, has_failed, is_flexible, reader_config, reader_state, reader_trim, records_from, source_of}
use Rattle.csv.specs.declared.parser.State.{State}
use Rattle.csv.specs.declared.reader.Reader.{Reader}
use Rattle.csv.specs.declared.reader.Trim.TheVariants as trim

-- the records of some bytes, where they are known, from a state of the reader
abbrev pub records_after : State → Option (List ℕ) → List (List (List ℕ))
records_after state None = []
records_after state (Some bytes) = map (λ fields. map without_blanks fields) (records_from default_config (length bytes + 1) state bytes)

-- one part of the bytes after the other
abbrev pub Parts : Type 0
Parts = Chain (Bor (List ℕ)) (Bor (List ℕ))

-- the bytes that they have left
abbrev pub bytes_left : Parts → Option (List ℕ)
bytes_left parts = chain_remaining (λ s. Some s.now) (λ s. Some s.now) parts

-- the records that a reader over bytes has left
abbrev pub records_left : Reader Parts → List (List (List ℕ))
records_left reader = records_after (reader_state reader) (source_of bytes_left reader)

-- the next read of the reader is of a whole record
pub record IsReading (reader : Reader Parts) : Type 0 where
  pub plain : reader_config reader ≡ default_config
  pub untrimmed : reader_trim reader ≡ trim.None
  pub ready : Ready reader
  pub flexible : is_flexible reader ≡ true
  pub sound : has_failed reader ≡ false

-- the next read took a record with these fields, and the reader reads on
pub record TakesFields (old new : Reader Parts) (fields : List (List ℕ)) : Type 0 where
  pub first : records_left old ≡ fields ∷ records_left new
  pub reads_on : IsReading new

-- the reader reads on, and what it has left can be counted from this number on
pub record Counts (reader : Reader Parts) (next : ℕ) : Type 0 where
  pub reads_on : IsReading reader
  pub few : next + length (records_left reader) < 2 ^ 64

-- so it is in a script that has neither failed nor come to its end
abbrev pub ReadsOn : Inside → Type 0
ReadsOn script = script.failed ≡ false → script.ended ≡ false → Counts script.reader script.next

abbrev pub unread : Inside → Unread
unread script = record {
  left = if script.ended then [] else records_left script.reader;
  next = script.next;
  version = script.version;
  failed = script.failed;
}
