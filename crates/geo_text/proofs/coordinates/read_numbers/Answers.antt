use Rattle.std.proofs.Common.{◌<◌, ◌≤◌, FitsSigned, arith, length, rules, sym, w64, ◌∙◌}
use Rattle.std.proofs.lemmas.Int.{to_z-of_z}
use Rattle.std.proofs.lemmas.List.{drop_all}
use Rattle.geo_text.proofs.CappedNumber.{number_read}
use Rattle.geo_text.proofs.Faults.{all_read, first_failing-drop, read_step}
use Rattle.geo_text.proofs.FieldAt.{length-plain_fields}
use Rattle.geo_text.proofs.coordinates.read_numbers.Goals as goal
use Rattle.geo_text.specs.Capped.{after_word}
use Rattle.geo_text.specs.Number.{is_number}
use Rattle.geo_text.specs.Records.{plain_fields}

pub loop-place-preserved : goal.loop-place-preserved
loop-place-preserved c =
    let fields = plain_fields c.args.row.now in
    let count = length-plain_fields c.args.row.now in
    let within : c.loop-place.place < length fields = omega arith in
    let read = number_read c.field.result.now c.in-Some.z (sym c.in-Some.is ∙ c.number.ensures) in
    let (is, same) = rw c.field.ensures at read in
    let fits : FitsSigned w64 c.in-Some.z = search rules in
    record {
      number = c.loop-place.invariant.number ∙ (rw is at (first_failing-drop is_number fields c.loop-place.place within));
      read = read_step fields c.loop-place.place _ _ _ _ within same (c.in_ok-push.ensures.items ∙ simp to_z-of_z) c.loop-place.invariant.read;
    }

pub returns : goal.returns
returns c =
    let fields = plain_fields c.args.row.now in
    let count = length-plain_fields c.args.row.now in
    let past : length fields ≤ c.loop-place.place = omega arith in
    all_read (after_word c.args.row.now) _ c.loop-place.place c.loop-place.numbers.items (drop_all c.loop-place.place fields past)
    c.loop-place.invariant.number c.loop-place.invariant.read
