use Rattle.std.proofs.Common.{◌-◌, length}
use Rattle.pair_cut.proofs.WayBack.{IsGoneBack}
use Rattle.pair_cut.proofs.table.PairTable.way_back.Given as goal

abbrev pub invariant-loop-at : goal.invariant-loop-at
invariant-loop-at l = IsGoneBack l.self l.i l.j l.at l.names.items

abbrev pub decreases-loop-at : goal.decreases-loop-at
decreases-loop-at l = length l.self - length l.names.items
