-- The fields of a record, by their places.
use Rattle.std.proofs.Common.{◌≡◌, ℕ, zero, suc, List, [], ◌∷◌, map, length, refl}
use Rattle.std.proofs.lemmas.List.{length-map}
use Rattle.std.specs.Prelude.{slice_index_or, unwrap_or}
use Rattle.geo_text.specs.Records.{plain_fields, without_blanks}
use Rattle.csv.specs.Records.{Row, field_at, fields_of}

-- the field at a place, or an empty one past the last
pub field_or_empty : (fields : List (List ℕ)) (i : ℕ) → slice_index_or (map without_blanks fields) i [] ≡ without_blanks (unwrap_or (field_at fields i) [])
unfolding field_at
field_or_empty [] i = refl
field_or_empty (field ∷ fields) zero = refl
field_or_empty (field ∷ fields) (suc i) = field_or_empty fields i

-- to drop blanks drops no field
pub length-plain_fields : (row : Row) → length (plain_fields row) ≡ length (fields_of row)
length-plain_fields row = length-map (fields_of row) without_blanks
