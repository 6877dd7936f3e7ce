use Rattle.std.proofs.Common.{sym, ◌∙◌}
use Rattle.geo_text.proofs.Commands.{numbers_are_well_sized, read_in_numbers}
use Rattle.geo_text.proofs.reading.command_in_numbers.Goals as goal

pub returns-in-None-clause-well_sized : goal.returns-in-None-clause-well_sized
returns-in-None-clause-well_sized c =
    numbers_are_well_sized c.args.limits.now c.requires c.args.word c.args.numbers.now c.within.result
    (read_in_numbers c.args.limits.now c.args.word c.args.numbers.now
    (rw c.takes.ensures at (sym c.in-None.is ∙ c.fault.ensures)) c.within.result c.within.ensures)
