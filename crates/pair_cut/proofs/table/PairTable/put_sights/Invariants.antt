use Rattle.std.proofs.Common.{◌+◌, ◌≤◌, length}
use Rattle.pair_cut.proofs.table.PairTable.put_sights.Given as goal
use Rattle.pair_cut.specs.Sights.{AreToldBefore}

abbrev pub invariant-loop-j : goal.invariant-loop-j
invariant-loop-j l = record {
  told : AreToldBefore l.self (l.i, l.j) l.pairs.items;
  few : length l.pairs.items ≤ length l.fn.pairs.items + l.j;
}
