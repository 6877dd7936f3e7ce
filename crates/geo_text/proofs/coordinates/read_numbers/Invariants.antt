use Rattle.std.proofs.Common.{◌≡◌, ◌++◌, drop, map}
use Rattle.geo_text.proofs.coordinates.read_numbers.Given as goal
use Rattle.geo_text.specs.Capped.{after_word, read_of}
use Rattle.geo_text.specs.Number.{is_number}
use Rattle.geo_text.specs.Reading.{first_failing}
use Rattle.geo_text.specs.Records.{plain_fields}

abbrev pub invariant-loop-place : goal.invariant-loop-place
invariant-loop-place l = record {
  number : first_failing is_number 1 (after_word l.row) ≡ first_failing is_number l.place (drop l.place (plain_fields l.row));
  read : l.numbers.items ++ map read_of (drop l.place (plain_fields l.row)) ≡ map read_of (after_word l.row);
}
