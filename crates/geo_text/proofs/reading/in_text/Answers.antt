use Rattle.std.proofs.Common.{◌≡◌, ◌∙◌, ap, arith, length, sym}
use Rattle.std.proofs.lemmas.List.{length-map}
use Rattle.geo_text.proofs.Commands.{read_in_text, refused_count, refused_field, count_is, length-after_word}
use Rattle.geo_text.proofs.reading.in_text.Goals as goal
use Rattle.geo_text.specs.Capped.{after_word, read_of}

pub returns-in-Some : goal.returns-in-Some
returns-in-Some c =
    let count = length-after_word c.args.row.now in
    let same : c.saturating_sub.result ≡ length (after_word c.args.row.now) = omega arith in
    refused_count c.args.limits.now c.args.word (after_word c.args.row.now) c.in-Some.fault (rw (c.takes.ensures, same) at (sym c.in-Some.is ∙ c.fault.ensures))

pub within-requires-clause-right : goal.within-requires-clause-right
within-requires-clause-right c =
    let (none, read) = rw c.in-Ok.is at c.in_ok-read_numbers.ensures in
    let count = length-after_word c.args.row.now in
    let fields = length-map (after_word c.args.row.now) read_of in
    let same : length c.deref.result.now ≡ c.saturating_sub.result = omega (arith, ap length read, ap length c.deref.ensures.value) in
    count_is c.args.limits.now c.requires c.args.word c.saturating_sub.result _ (rw c.takes.ensures at (sym c.in_default.is ∙ c.fault.ensures)) same

pub returns-in-Ok : goal.returns-in-Ok
returns-in-Ok c =
    let (none, read) = rw c.in-Ok.is at c.in_ok-read_numbers.ensures in
    let count = length-after_word c.args.row.now in
    let same : c.saturating_sub.result ≡ length (after_word c.args.row.now) = omega arith in
    read_in_text c.args.limits.now c.requires c.args.word (after_word c.args.row.now) c.deref.result.now
    (rw (c.takes.ensures, same) at (sym c.in_default.is ∙ c.fault.ensures)) none (c.deref.ensures.value ∙ read) c.within.result c.within.ensures

pub returns-in-Err : goal.returns-in-Err
returns-in-Err c =
    let count = length-after_word c.args.row.now in
    let same : c.saturating_sub.result ≡ length (after_word c.args.row.now) = omega arith in
    refused_field c.args.limits.now c.args.word (after_word c.args.row.now) c.in-Err.fault
    (rw (c.takes.ensures, same) at (sym c.in_default.is ∙ c.fault.ensures)) (rw c.in-Err.is at c.in_ok-read_numbers.ensures)
