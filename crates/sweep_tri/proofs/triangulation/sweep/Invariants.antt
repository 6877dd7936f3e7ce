use Rattle.std.proofs.Common.{◌+◌, ◌*◌, ◌≤◌, length}
use Rattle.shared_seq.specs.Digits.{binary_digits}
use Rattle.sweep_tri.proofs.triangulation.sweep.Given as goal
use Rattle.sweep_tri.specs.Entries.{status_entries}
use Rattle.sweep_tri.specs.Swept.{IsSwept}

abbrev pub invariant-loop-v : goal.invariant-loop-v
invariant-loop-v g l =
    let corners = g.T.Turns.corners l.board in
    record {
      swept : IsSwept corners l.rank.items l.v-index l.state.status l.state.tris.items;
      steps : l.steps + 8 * status_entries l.state.status ≤ l.fn.steps + 200 * l.v-index * binary_digits (length corners);
    }
