use Rattle.std.proofs.Common.{◌+◌, ◌<◌, ◌≤◌, ◌^◌, ◌++◌, arith, length, rules}
use Rattle.std.proofs.lemmas.List.{length-append}
use Rattle.geo_text.proofs.RecordsLeft.{few_records}
use Rattle.geo_text.proofs.script.Script.over.Goals as goal
use Rattle.geo_text.specs.Script.{IsReading, records_left}

pub invariant_of-result : goal.invariant_of-result
invariant_of-result c sound goes =
    let short : length c.args.bytes.now < 2 ^ 63 = search rules in
    let reads_on : IsReading c.from_reader.result = search rules in
    let text = c.args.front.now ++ c.args.bytes.now in
    let few : length (records_left c.from_reader.result) ≤ length text + 1 = rw (c.from_reader.ensures.source, c.chain.ensures.bytes) (few_records _ text) in
    record { reads_on = reads_on; few = omega (arith, c.requires, few, length-append c.args.front.now c.args.bytes.now) }
