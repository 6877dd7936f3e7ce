use Rattle.geo_text.proofs.RecordsLeft.{result_takes}
use Rattle.geo_text.proofs.script.read.Goals as goal
use Rattle.csv.specs.Records.{fields_of}

pub returns : goal.returns
returns c =
    let read = c.read_byte_record in
    rw c.or.ensures (result_takes read.result _ c.args.reader.now read.new.self (fields_of read.new.row) c.requires read.ensures.reads read.ensures.reads_on read.ensures.goes)
