use Rattle.std.proofs.Common.{◌≡◌, ◌+◌, ◌*◌, ◌≤◌, length, map}
use Rattle.shared_seq.specs.Digits.{binary_digits}
use Rattle.pair_cut.proofs.table.PairTable.build.Given as goal
use Rattle.pair_cut.specs.Rows.{AreRows}

abbrev pub invariant-loop-i : goal.invariant-loop-i
invariant-loop-i g l =
    let corners = g.T.Turns.corners l.board in
    let n = length corners in
    let b = binary_digits n in
    record {
      count : length l.before.items ≡ l.i;
      rows : AreRows corners (map (λ row. row.items) l.before.items);
      steps : l.steps ≤ l.fn.steps + l.i * (200 * n * (b * b));
    }
