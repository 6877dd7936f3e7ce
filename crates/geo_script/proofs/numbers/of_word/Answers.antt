use Rattle.geo_script.proofs.InNumbers.{read_plain, two_is_well_sized}
use Rattle.geo_script.proofs.numbers.of_word.Goals as goal

pub returns-in-Two-clause-well_sized : goal.returns-in-Two-clause-well_sized
returns-in-Two-clause-well_sized c = rw c.two.ensures (two_is_well_sized c.args.known c.args.numbers.now)

pub returns-in_default-clause-command : goal.returns-in_default-clause-command
returns-in_default-clause-command c =
    read_plain c.args.version c.args.known c.args.numbers.now c.args.word c.command_in_numbers.result c.in_default.not-Two
    (rw c.of.ensures at c.command_in_numbers.ensures.command)
