use Rattle.std.proofs.Common.{arith}
use Rattle.pair_cut.proofs.SightLists.{sights_of_told}
use Rattle.pair_cut.proofs.TableRows.{rows_of}
use Rattle.pair_cut.proofs.table.PairTable.sights.Goals as goal

pub returns-clause-sights : goal.returns-clause-sights
returns-clause-sights c = λ ring made.
    let all = rows_of _ _ c.args.self.now c.self.view_is c.self.invariant in
    sights_of_told c.args.self.now ring made c.loop-i.i c.loop-i.pairs.items (omega (arith, all, c.len-i-end.ensures, c.loop-i-test.false))
    c.loop-i.invariant.told
