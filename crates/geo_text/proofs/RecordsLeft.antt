-- What a read of a record takes from the records that a reader has left.
use Rattle.std.proofs.Common.{◌≡◌, ◌∙◌, ◌==◌, ◌&&◌, ◌+◌, ◌≤◌, ℕ, Bool, true, false, not, if◌then◌else◌}
use Rattle.std.proofs.Common.{Option, Some, Result, Ok, Err, List, [], ◌∷◌, ◌++◌, map, arith, length, refl}
use Rattle.std.proofs.lemmas.List.{length-map}
use Rattle.std.specs.Bool.{MatchBool}
use Rattle.std.specs.Prelude.{IfOk, OnOk, option_map}
use Rattle.std.specs.Result.{result_or}
use Rattle.geo_text.proofs.Fuel.{length-records_from, records_none, records_taken}
use Rattle.geo_text.specs.Records.{without_blanks}
use Rattle.geo_text.specs.Script.{IsReading, Parts, TakesFields, bytes_left, records_after, records_left}
use Rattle.csv.proofs.ReadFacts.{rows-end, rows-more}
use Rattle.csv.specs.Reading.{Reached, ReadRecord, ReadsOn, Ready, buffered_of, default_config, has_failed, is_bom, reader_trim, source_of, strip_bom}
use Rattle.csv.specs.declared.parser.State.{State}
use Rattle.csv.specs.declared.reader.Reader.{Reader}
use Rattle.csv.specs.declared.reader.Trim.TheVariants as trim

-- what two parts have left, the first of which is done or not
abbrev left_by : Parts → Bool → Option (List ℕ)
left_by parts done = if done then Some parts.b_done.now else Some (parts.a_done.now ++ parts.b_done.now)

-- while it has not failed, the bytes that a reader has left are known
source_is_known : (reader : Reader Parts) → has_failed reader ≡ false → (bytes : List ℕ) × (source_of bytes_left reader ≡ Some bytes)
source_is_known reader sound =
    rw sound (at_start (not reader.bom_checked && (reader.at == 0) && (reader.filled == 0)) reader.rdr.is_first_done)
  where
    at_start : (b done : Bool) → (bytes : List ℕ) × ((if b then option_map strip_bom (left_by reader.rdr done) else buffered_of (left_by reader.rdr done) reader) ≡ Some bytes)
    at_start true true = (_, refl)
    at_start true false = (_, refl)
    at_start false true = (_, refl)
    at_start false false = (_, refl)

-- one record, from a state and bytes to a state and bytes
taken_between : (s t : State) (xs ys : List ℕ) (fields : List (List ℕ)) → Reached default_config s xs (fields ∷ []) t ys
    → records_after s (Some xs) ≡ map without_blanks fields ∷ records_after t (Some ys)
unfolding Reached
taken_between s t xs ys fields (p, next, same, ends) = rw (records_taken default_config s xs p next, same, ends.0, ends.1) refl

-- a read that found a record took the first that was left
takes_first : (a b : Reader Parts) (fields : List (List ℕ)) → IsReading a → ReadRecord bytes_left a b true fields
    → records_left a ≡ map without_blanks fields ∷ records_left b
unfolding Reached
takes_first a b fields h read =
    let (xs, before) = source_is_known a h.sound in
    let (ys, after, reached) = rows-more bytes_left a b fields default_config a.state xs xs [] h.plain before (refl, refl) read in
    rw (before, after) (taken_between a.state b.state xs ys fields reached)

-- a read that found no record had none left
finds_none : (a b : Reader Parts) (fields : List (List ℕ)) → IsReading a → ReadRecord bytes_left a b false fields → records_left a ≡ []
finds_none a b fields h read =
    let (xs, before) = source_is_known a h.sound in
    rw (before, records_none default_config a.state xs (rows-end bytes_left a b fields default_config xs h.plain before read)) refl

-- after a record the reader reads on
still_reading : (a b : Reader Parts) → IsReading a → ReadsOn a b → has_failed b ≡ has_failed a → IsReading b
still_reading a b h on goes = record {
  plain = on.0 ∙ h.plain;
  untrimmed = on.1 ∙ h.untrimmed;
  ready = (on.4 h.ready).0;
  flexible = on.2 ∙ h.flexible;
  sound = goes ∙ h.sound;
}

-- a read takes the first of the records that are left, or none is left
read_takes : (a b : Reader Parts) (found : Bool) (fields : List (List ℕ)) → IsReading a → ReadRecord bytes_left a b found fields
    → (found ≡ true → ReadsOn a b) → has_failed b ≡ has_failed a → MatchBool found (TakesFields a b (map without_blanks fields)) (records_left a ≡ [])
read_takes a b true fields h read on goes = record { first = takes_first a b fields h read; reads_on = still_reading a b h (on refl) goes }
read_takes a b false fields h read on goes = finds_none a b fields h read

-- the same of the result of a read
pub result_takes : {E M : Type 0} (r : Result Bool E) (m : M) (a b : Reader Parts) (fields : List (List ℕ)) → IsReading a
    → IfOk r (λ found. reader_trim a ≡ trim.None → Ready a → ReadRecord bytes_left a b found fields) → IfOk r (λ found. found ≡ true → ReadsOn a b) → OnOk r (has_failed b ≡ has_failed a)
    → IfOk (result_or r (Err m)) (λ found. MatchBool found (TakesFields a b (map without_blanks fields)) (records_left a ≡ []))
result_takes (Ok found) m a b fields h read on goes = read_takes a b found fields h (read h.untrimmed h.ready) on goes
result_takes (Err e) m a b fields h read on goes = tt

-- to drop a mark adds no byte
length-strip_bom : (bytes : List ℕ) → length (strip_bom bytes) ≤ length bytes
unfolding strip_bom
length-strip_bom [] = omega arith
length-strip_bom (a ∷ []) = omega arith
length-strip_bom (a ∷ b ∷ []) = omega arith
length-strip_bom (a ∷ b ∷ c ∷ rest) = by_mark (is_bom a b c)
  where
    by_mark : (mark : Bool) → length (if mark then rest else a ∷ b ∷ c ∷ rest) ≤ length (a ∷ b ∷ c ∷ rest)
    by_mark true = omega arith
    by_mark false = omega arith

-- so the records of a text can be counted
pub few_records : (s : State) (bytes : List ℕ) → length (records_after s (Some (strip_bom bytes))) ≤ length bytes + 1
few_records s bytes =
    let text = strip_bom bytes in
    rw length-map (omega (arith, length-strip_bom bytes, length-records_from default_config (length text + 1) s text))
