use Rattle.std.proofs.Common.{sym, ◌∙◌}
use Rattle.geo_text.proofs.Commands.{read_by_word}
use Rattle.geo_text.proofs.reading.command.Goals as goal
use Rattle.geo_text.specs.Records.{plain_fields}

pub returns-in-Some : goal.returns-in-Some
returns-in-Some c =
    read_by_word c.args.limits.now (plain_fields c.args.row.now) c.in-Some.word c.in_text.result
    (rw c.field.ensures at (sym c.in-Some.is ∙ c.named.ensures.word)) c.in_text.ensures
