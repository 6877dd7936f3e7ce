use Rattle.std.proofs.Common.{◌+◌, ◌*◌, ◌<◌, ◌≤◌, length}
use Rattle.pair_cut.proofs.rows.row_from.Given as goal
use Rattle.pair_cut.specs.Doors.{IsGrownTo}

abbrev pub invariant-loop-p : goal.invariant-loop-p
invariant-loop-p g l =
    let corners = g.T.Turns.corners l.board in
    record {
      later : 0 < l.p;
      grown : IsGrownTo corners l.i l.mesh l.order.items l.p l.row.before.items l.row.tangents.items;
      steps : l.steps ≤ l.fn.steps + l.p * length corners;
    }
