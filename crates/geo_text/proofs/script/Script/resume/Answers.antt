use Rattle.std.proofs.Common.{◌≡◌, ◌++◌, rules}
use Rattle.geo_text.proofs.Joined.{records_after_line_feed}
use Rattle.geo_text.proofs.script.Script.resume.Goals as goal
use Rattle.geo_text.specs.Records.{later_records_of, records_of}

pub returns : goal.returns
returns c =
    let left : records_of (c.as_slice.result.now ++ c.args.bytes.now) ≡ later_records_of c.args.bytes.now =
    rw c.as_slice.ensures (records_after_line_feed c.args.bytes.now)
    in
    rw (c.over.ensures, left) (search rules)
