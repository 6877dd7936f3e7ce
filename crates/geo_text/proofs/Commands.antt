-- Counts of fields, and commands of as many.
-- Commands of a record, by its word.
use Rattle.std.proofs.Common.{◌≡◌, ◌≤◌, ◌/◌, ◌%◌, ◌-◌, ◌==◌, ◌∙◌, ℕ, ℤ, Bool, true, false, if◌then◌else◌, Option, Some, None, List, length}
use Rattle.std.proofs.Common.{refl, sym, ap, subst, arith, Result, Ok, Err, [], ◌∷◌, drop, get_or, map}
use Rattle.std.proofs.lemmas.Bool.Decides.{nat_tests}
use Rattle.std.proofs.lemmas.List.{length-drop, length-map}
use Rattle.std.specs.Option.{option_or}
use Rattle.std.specs.Prelude.{IfOk, nat_lt}
use Rattle.plane.specs.declared.limits.TheConstants.{MAX_HULL}
use Rattle.geo_text.proofs.CappedNumber.{read_within}
use Rattle.geo_text.proofs.Faults.{range_of_fields, read_exactly}
use Rattle.geo_text.proofs.FieldAt.{length-plain_fields}
use Rattle.geo_text.proofs.NumberPoints.{length-pairs_of}
use Rattle.geo_text.specs.Capped.{after_word, read_of}
use Rattle.geo_text.specs.Limits.{IsLimited}
use Rattle.geo_text.specs.Number.{is_coordinate, is_number, number_of}
use Rattle.geo_text.specs.Reading.{IsWellSized, command_with, pairs_of, unless, OneReadingLaw, by_word, command_in_numbers, command_in_text}
use Rattle.geo_text.specs.Reading.{command_of, first_failing, first_fault, number_fault, range_fault}
use Rattle.geo_text.specs.Records.{plain_fields}
use Rattle.geo_text.specs.Words.{IsCountOf, count_fault, takes_of, word_named}
use Rattle.geo_text.specs.declared.command.Bad.{Bad}
use Rattle.geo_text.specs.declared.command.Command.{Command}
use Rattle.geo_text.specs.declared.limits.Limits.{Limits}
use Rattle.geo_text.specs.declared.word.Word.{Word}
use Rattle.geo_text.specs.declared.command.Bad.TheVariants as bad
use Rattle.geo_text.specs.declared.takes.Takes.TheVariants as takes
use Rattle.geo_text.specs.declared.word.Word.TheVariants as word
use Rattle.csv.specs.Records.{Row, fields_of}

-- a record has one field less behind its word
pub length-after_word : (row : Row) → length (after_word row) ≡ length (fields_of row) - 1
length-after_word row = length-drop 1 (plain_fields row) ∙ ap (λ (n : ℕ). n - 1) (length-plain_fields row)

-- a count without a fault is one of the word
pub count_is : (limits : Limits) → IsLimited limits → (asked : Word) (count same : ℕ) → None ≡ count_fault (takes_of limits asked) count → same ≡ count
    → IsCountOf asked same
count_is limits limited asked count same none is = record {
  limits = limits;
  limited = limited;
  right = subst (λ (n : ℕ). count_fault (takes_of limits asked) n ≡ None) (sym is) (sym none);
}

-- ---- a command of as many numbers as its word takes is well sized

in_bounds : (odd few many : Bool) → (if odd then Some bad.Fields else if few then Some bad.Few else if many then Some bad.Many else None) ≡ None
    → (few ≡ false) × (many ≡ false)
in_bounds true few many e = cc
in_bounds false true many e = cc
in_bounds false false true e = cc
in_bounds false false false e = (refl, refl)

points_counted : (least most count : ℕ) → count_fault (takes.Points least most) count ≡ None → (least ≤ count / 2) × (count / 2 ≤ most)
points_counted least most count e =
    let (few, many) = in_bounds ((count % 2) == 1) (nat_lt (count / 2) least) (nat_lt most (count / 2)) e in
    (grind (arith, nat_tests), grind (arith, nat_tests))

list_in_bounds : (least most : ℕ) (numbers : List ℤ) → count_fault (takes.Points least most) (length numbers) ≡ None
    → (least ≤ length (pairs_of numbers)) × (length (pairs_of numbers) ≤ most)
list_in_bounds least most numbers e =
    let counted = points_counted least most (length numbers) e in
    let count = length-pairs_of numbers in
    (omega arith, omega arith)

is_well_sized : (limits : Limits) → IsLimited limits → (asked : Word) (numbers : List ℤ) → count_fault (takes_of limits asked) (length numbers) ≡ None
    → IsWellSized (command_with asked numbers)
is_well_sized limits h word.Polygon numbers e =
    let sized = list_in_bounds 3 limits.corners numbers e in
    (sized.0, omega arith)
is_well_sized limits h word.Check numbers e =
    let sized = list_in_bounds 1 limits.chain numbers e in
    (sized.0, omega arith)
is_well_sized limits h word.Hull numbers e = list_in_bounds 1 MAX_HULL numbers e
is_well_sized limits h word.Round numbers e = list_in_bounds 1 MAX_HULL numbers e
is_well_sized limits h _ numbers e = tt

-- so it is, unless something is wrong with the count or else
pub unless_well_sized : (limits : Limits) → IsLimited limits → (asked : Word) (numbers : List ℤ) (count fault : Option Bad)
    → count ≡ count_fault (takes_of limits asked) (length numbers) → IfOk (unless (option_or count fault) (command_with asked numbers)) IsWellSized
unless_well_sized limits h asked numbers None None none = is_well_sized limits h asked numbers (sym none)
unless_well_sized limits h asked numbers None (Some fault) none = tt
unless_well_sized limits h asked numbers (Some fault) other is = tt

-- ---- the word

-- the command of a record is that of its word
pub read_by_word : {E : Type 0} (limits : Limits) (fields : List (List ℕ)) (asked : Word) (read : Result (Result Command Bad) E)
    → Some asked ≡ word_named (get_or fields 0 []) → IfOk read (λ reading. reading ≡ command_in_text limits asked (drop 1 fields))
    → IfOk read (λ reading. reading ≡ command_of limits fields)
read_by_word limits [] asked read is holds = cc is
read_by_word limits (name ∷ fields) asked read is holds =
    subst (λ (found : Option Word). IfOk read (λ reading. reading ≡ by_word found (λ it. command_in_text limits it fields))) is holds

-- ---- the faults, in their order

-- a count that is wrong is refused,
wrong_count : (count other : Option Bad) (made : Command) (fault : Bad) → Some fault ≡ count → Err fault ≡ unless (option_or count other) made
wrong_count None other made fault is = cc
wrong_count (Some found) other made fault is = cc

pub refused_count : (limits : Limits) (asked : Word) (fields : List (List ℕ)) (fault : Bad) → Some fault ≡ count_fault (takes_of limits asked) (length fields)
    → Err fault ≡ command_in_text limits asked fields
refused_count limits asked fields fault is =
    wrong_count (count_fault (takes_of limits asked) (length fields)) (number_fault limits.coordinate fields) (command_with asked (map number_of fields)) fault is

-- then a field that is no number,
no_number : (count : Option Bad) (number range : Option ℕ) (made : Command) (fault : Bad) → None ≡ count → first_fault number None ≡ Some fault
    → Err fault ≡ unless (option_or count (first_fault number range)) made
no_number None (Some place) range made fault none is = cc
no_number None None range made fault none is = cc
no_number (Some other) number range made fault none is = cc

pub refused_field : (limits : Limits) (asked : Word) (fields : List (List ℕ)) (fault : Bad) → None ≡ count_fault (takes_of limits asked) (length fields)
    → first_fault (first_failing is_number 1 fields) None ≡ Some fault → Err fault ≡ command_in_text limits asked fields
refused_field limits asked fields fault none is =
    no_number (count_fault (takes_of limits asked) (length fields)) (first_failing is_number 1 fields) (first_failing (is_coordinate limits.coordinate) 1 fields)
    (command_with asked (map number_of fields)) fault none is

-- and then a number past the limit
in_order : (count : Option Bad) (number range : Option ℕ) (asked : Word) (fault : Option Bad) (read exact : List ℤ) → None ≡ count → number ≡ None
    → fault ≡ first_fault None range → (range ≡ None → read ≡ exact)
    → unless fault (command_with asked read) ≡ unless (option_or count (first_fault number range)) (command_with asked exact)
in_order None None None asked fault read exact right numbers is same = rw is (ap Ok (ap (command_with asked) (same refl)))
in_order None None (Some place) asked fault read exact right numbers is same = rw is refl
in_order None (Some place) range asked fault read exact right numbers is same = cc
in_order (Some other) number range asked fault read exact right numbers is same = cc

-- so a record is read by the numbers that its fields are read as
pub read_in_text : {E : Type 0} (limits : Limits) → IsLimited limits → (asked : Word) (fields : List (List ℕ)) (numbers : List ℤ)
    → None ≡ count_fault (takes_of limits asked) (length fields) → first_failing is_number 1 fields ≡ None → numbers ≡ map read_of fields
    → (read : Result (Result Command Bad) E) → IfOk read (λ reading. reading ≡ unless (range_fault limits.coordinate 1 numbers) (command_with asked numbers))
    → IfOk read (λ reading. reading ≡ command_in_text limits asked fields)
read_in_text limits limited asked fields numbers right none are (Err e) is = tt
read_in_text limits limited asked fields numbers right none are (Ok reading) is =
    let limit = limits.coordinate in
    is ∙ in_order (count_fault (takes_of limits asked) (length fields)) (first_failing is_number 1 fields) (first_failing (is_coordinate limit) 1 fields)
    asked (range_fault limit 1 numbers) numbers (map number_of fields) right none
    (ap (range_fault limit 1) are ∙ range_of_fields limit read_of (read_within limit limited.coordinate) 1 fields)
    (λ passed. are ∙ read_exactly limit fields 1 limited.coordinate passed)

-- in numbers it is the same, without the fields
pub read_in_numbers : {E : Type 0} (limits : Limits) (asked : Word) (numbers : List ℤ) → None ≡ count_fault (takes_of limits asked) (length numbers)
    → (read : Result (Result Command Bad) E) → IfOk read (λ reading. reading ≡ unless (range_fault limits.coordinate 1 numbers) (command_with asked numbers))
    → IfOk read (λ reading. reading ≡ command_in_numbers limits asked numbers)
read_in_numbers limits asked numbers right read is =
    subst (λ (count : Option Bad). IfOk read (λ reading. reading ≡ unless (option_or count (range_fault limits.coordinate 1 numbers)) (command_with asked numbers))) right is

-- ---- the law of the two readings

by_each : {T : Type 0} (found : Option Word) (read read' : Word → Result T Bad) → ((asked : Word) → read asked ≡ read' asked) → by_word found read ≡ by_word found read'
by_each None read read' same = refl
by_each (Some asked) read read' same = same asked

same_faults : (count count' : Option Bad) (number range : Option ℕ) (fault : Option Bad) (made : Command) → count' ≡ count → number ≡ None
    → fault ≡ first_fault None range → unless (option_or count (first_fault number range)) made ≡ unless (option_or count' fault) made
same_faults count count' number range fault made same none is = rw (same, none, is) refl

pub one_reading_law : OneReadingLaw
one_reading_law limits name fields none =
    by_each (word_named name) (λ asked. command_in_text limits asked fields) (λ asked. command_in_numbers limits asked (map number_of fields)) (λ asked.
    same_faults (count_fault (takes_of limits asked) (length fields)) (count_fault (takes_of limits asked) (length (map number_of fields)))
    (first_failing is_number 1 fields) (first_failing (is_coordinate limits.coordinate) 1 fields)
    (range_fault limits.coordinate 1 (map number_of fields)) (command_with asked (map number_of fields))
    (ap (count_fault (takes_of limits asked)) (length-map fields number_of)) none
    (range_of_fields limits.coordinate number_of (λ field. refl) 1 fields))

-- ---- sizes

-- what holds of each reading by a word holds of the reading
pub holds_by_word : {T : Type 0} (P : T → Type 0) (found : Option Word) (read : Word → Result T Bad) → ((asked : Word) → found ≡ Some asked → IfOk (read asked) P)
    → IfOk (by_word found read) P
holds_by_word P None read holds = tt
holds_by_word P (Some asked) read holds = holds asked refl

-- each command is well sized
pub command_is_well_sized : (limits : Limits) → IsLimited limits → (fields : List (List ℕ)) → IfOk (command_of limits fields) IsWellSized
command_is_well_sized limits limited [] = tt
command_is_well_sized limits limited (name ∷ fields) =
    holds_by_word IsWellSized (word_named name) (λ asked. command_in_text limits asked fields) (λ asked is.
    unless_well_sized limits limited asked (map number_of fields) (count_fault (takes_of limits asked) (length fields)) (number_fault limits.coordinate fields)
    (ap (count_fault (takes_of limits asked)) (sym (length-map fields number_of))))

-- in numbers too
pub numbers_are_well_sized : {E : Type 0} (limits : Limits) → IsLimited limits → (asked : Word) (numbers : List ℤ) (read : Result (Result Command Bad) E)
    → IfOk read (λ reading. reading ≡ command_in_numbers limits asked numbers) → IfOk read (λ reading. IfOk reading IsWellSized)
numbers_are_well_sized limits limited asked numbers (Err e) is = tt
numbers_are_well_sized limits limited asked numbers (Ok reading) is =
    subst (λ (it : Result Command Bad). IfOk it IsWellSized) (sym is)
    (unless_well_sized limits limited asked numbers (count_fault (takes_of limits asked) (length numbers)) (range_fault limits.coordinate 1 numbers) refl)
