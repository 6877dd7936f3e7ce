use Rattle.std.proofs.Common.{◌≡◌, arith}
use Rattle.rel_hull.proofs.TableReads.{chain_read}
use Rattle.rel_hull.proofs.table.ChainTable.chain.Goals as goal
use Rattle.rel_hull.specs.Table.{chain_at}

pub returns : goal.returns
returns c =
    let i = c.args.i in
    let j = c.args.j in
    let first = rw (← c.self.view_is) at c.requires.first in
    let second = rw (← c.self.view_is) at c.requires.second in
    let kept = c.self.invariant in
    let is : c.deref.result.now ≡ chain_at c.args.self.now i j =
    rw (← c.self.view_is)
    (chain_read (λ chain. chain.items) c.self.inside.chains.items c.index.result.now c.deref.result.now c.self.inside.count i j _
    c.deref.ensures.value c.index.ensures (omega arith) first second kept.square) in
    record {
      chain = is;
      some = rw (is, ← c.self.view_is) (kept.some i j first second);
      begins = rw (is, ← c.self.view_is) (kept.begins i j first second);
      stepping = rw (is, ← c.self.view_is) (kept.stepping i j first second);
    }
