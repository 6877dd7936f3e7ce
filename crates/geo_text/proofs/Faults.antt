-- Faults of a list of fields or of numbers, from a place on.
use Rattle.std.proofs.Common.{◌≡◌, ◌∙◌, ◌<◌, ◌≤◌, ◌+◌, ℕ, ℤ, pos, negsuc, Bool, true, false, Option, Some, None, List, [], ◌∷◌}
use Rattle.std.proofs.Common.{◌++◌, length, drop, get_or, map, append-nil, append_assoc, if◌then◌else◌, refl, sym, ap, ap₂, arith}
use Rattle.std.proofs.lemmas.Bool.Decides.{nat_tests}
use Rattle.std.proofs.lemmas.List.{at_drop_more, drop_all}
use Rattle.std.specs.Prelude.{nat_le, unsigned_abs}
use Rattle.plane.specs.Point.{IsInLimit}
use Rattle.plane.specs.declared.limits.TheConstants.{MAX_COORDINATE}
use Rattle.geo_text.specs.Capped.{capped, read_of}
use Rattle.geo_text.specs.Number.{is_coordinate, is_number, number_of}
use Rattle.geo_text.specs.Reading.{first_failing, first_fault, range_fault}
use Rattle.geo_text.specs.declared.command.Bad.{Bad}
use Rattle.geo_text.specs.declared.command.Bad.TheVariants as bad

-- ---- fields

-- the field at a place passes a test, or is the first that fails it
pub first_failing-drop : (test : List ℕ → Bool) (fields : List (List ℕ)) (place : ℕ) → place < length fields
    → first_failing test place (drop place fields) ≡ (if test (get_or fields place []) then first_failing test (place + 1) (drop (place + 1) fields) else Some place)
first_failing-drop test fields place h = at_drop_more (first_failing test place) fields place [] h

-- one more field is read
pub read_step : (fields : List (List ℕ)) (place : ℕ) (z : ℤ) (before after all : List ℤ) → place < length fields → z ≡ read_of (get_or fields place [])
    → after ≡ before ++ z ∷ [] → before ++ map read_of (drop place fields) ≡ all → after ++ map read_of (drop (place + 1) fields) ≡ all
read_step fields place z before after all h e pushed read =
    rw (pushed, append_assoc, e) (rw (at_drop_more (map read_of) fields place [] h) at read)

-- all fields are
pub all_read : (fields rest : List (List ℕ)) (place : ℕ) (numbers : List ℤ) → rest ≡ []
    → first_failing is_number 1 fields ≡ first_failing is_number place rest → numbers ++ map read_of rest ≡ map read_of fields
    → (first_failing is_number 1 fields ≡ None) × (numbers ≡ map read_of fields)
all_read fields rest place numbers ended number read =
    let all : numbers ++ [] ≡ map read_of fields = rw ended at read in
    (rw ended at number, sym (append-nil numbers) ∙ all)

-- ---- numbers

-- a number within the limit is passed over,
pub range_passed : (limit place : ℕ) (numbers : List ℤ) (k : ℕ) → k < length numbers → unsigned_abs (get_or numbers k (pos 0)) ≤ limit
    → range_fault limit place (drop k numbers) ≡ range_fault limit (place + 1) (drop (k + 1) numbers)
range_passed limit place numbers k within small =
    let passes : nat_le (unsigned_abs (get_or numbers k (pos 0))) limit ≡ true = grind (arith, nat_tests) in
    at_drop_more (range_fault limit place) numbers k (pos 0) within ∙ (rw passes refl)

-- and one past it is the fault
pub range_found : (limit place : ℕ) (numbers : List ℤ) (k : ℕ) → k < length numbers → limit < unsigned_abs (get_or numbers k (pos 0))
    → range_fault limit place (drop k numbers) ≡ Some (bad.Range place)
range_found limit place numbers k within great =
    let fails : nat_le (unsigned_abs (get_or numbers k (pos 0))) limit ≡ false = grind (arith, nat_tests) in
    at_drop_more (range_fault limit place) numbers k (pos 0) within ∙ (rw fails refl)

-- at the end none is past it
pub range_at_end : (limit place : ℕ) (numbers : List ℤ) (k : ℕ) → length numbers ≤ k → range_fault limit place (drop k numbers) ≡ None
range_at_end limit place numbers k ended = ap (range_fault limit place) (drop_all k numbers ended)

-- ---- the numbers of fields

-- one field more, of which the number may pass the limit
one_more : (fits : Bool) (place : ℕ) (rest : Option Bad) (later : Option ℕ) → rest ≡ first_fault None later
    → (if fits then rest else Some (bad.Range place)) ≡ first_fault None (if fits then later else Some place)
one_more true place rest later same = same
one_more false place rest later same = refl

-- numbers of fields pass the limit where the fields do, whether they are exact or read
pub range_of_fields : (limit : ℕ) (value : List ℕ → ℤ) → ((field : List ℕ) → nat_le (unsigned_abs (value field)) limit ≡ is_coordinate limit field)
    → (place : ℕ) (fields : List (List ℕ)) → range_fault limit place (map value fields) ≡ first_fault None (first_failing (is_coordinate limit) place fields)
range_of_fields limit value same place [] = refl
range_of_fields limit value same place (field ∷ fields) =
    rw (same field) (one_more (is_coordinate limit field) place _ _ (range_of_fields limit value same (place + 1) fields))

-- where none fails from a field on, it passes, and none after it fails
passes : {T : Type 0} (b : Bool) (rest : Option T) (fault : T) → (if b then rest else Some fault) ≡ None → (b ≡ true) × (rest ≡ None)
passes true rest fault e = (refl, e)
passes false rest fault e = cc

-- a number within the limit is read as it is
capped_within : (z : ℤ) → IsInLimit z → capped z ≡ z
capped_within (pos n) h = ap pos (omega arith)
capped_within (negsuc n) h = ap negsuc (omega arith)

-- so are the numbers of fields of which none passes the limit
pub read_exactly : (limit : ℕ) (fields : List (List ℕ)) (place : ℕ) → limit ≤ MAX_COORDINATE → first_failing (is_coordinate limit) place fields ≡ None
    → map read_of fields ≡ map number_of fields
read_exactly limit [] place h none = refl
read_exactly limit (field ∷ fields) place h none =
    let (here, rest) = passes (is_coordinate limit field) _ place none in
    let within : IsInLimit (number_of field) = grind (arith, nat_tests) in
    ap₂ (λ (z : ℤ) (numbers : List ℤ). z ∷ numbers) (capped_within (number_of field) within) (read_exactly limit fields (place + 1) h rest)
