use Rattle.std.proofs.Common.{◌*◌, ◌≤◌, length}
use Rattle.pair_cut.proofs.table.PairTable.sights.Given as goal
use Rattle.pair_cut.specs.Sights.{AreToldBefore}

abbrev pub invariant-loop-i : goal.invariant-loop-i
invariant-loop-i l = record {
  told : AreToldBefore l.self (l.i, 0) l.pairs.items;
  few : length l.pairs.items ≤ l.i * length l.self;
}
