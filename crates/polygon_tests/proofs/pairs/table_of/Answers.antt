use Rattle.std.proofs.Common.{ap, sym, ◌∙◌, length}
use Rattle.polygon_tests.proofs.pairs.table_of.Goals as goal

pub returns : goal.returns
returns g c = c.in_ok-table.ensures.made.rows ∙ ap length c.without_ends-board.ensures ∙ sym c.len-count.ensures.number
