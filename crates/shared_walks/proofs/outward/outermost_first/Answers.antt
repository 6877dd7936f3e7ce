use Rattle.std.proofs.Common.{◌-◌, length, arith}
use Rattle.shared_walks.proofs.AllNumbers.{keys_again, keys_moved}
use Rattle.shared_walks.proofs.outward.outermost_first.Goals as goal
use Rattle.shared_walks.proofs.outward.outermost_first.Goals.{then-len-gt2+in_ok-insert, else-len-gt2}

pub returns : goal.returns
returns c =
    let n = length c.args.tris.now in
    let keys = c.sort_unstable.new.self.items in
    let all = keys_moved n _ keys c.sort_unstable.ensures.permutation c.in_ok-keys.ensures in
    elim c.if-len-gt2.branch [
      | then-len-gt2+in_ok-insert w ↦
          rw (w.keys-is, w.in_ok-insert.ensures.items)
          (keys_again n keys (w.len-then-len-gt2.result - 1) 1 w.index.result.now
          (omega (arith, w.len-then-len-gt2.ensures, w.if-len-gt2.true, c.len.ensures)) w.index.ensures all)
      | else-len-gt2 w ↦ rw w.keys-is all
    ]
