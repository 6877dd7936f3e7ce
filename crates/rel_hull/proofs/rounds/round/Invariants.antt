use Rattle.std.proofs.Common.{ℕ, ◌+◌, ◌-◌, ◌*◌, ◌≤◌, length}
use Rattle.rel_hull.proofs.Closing.{IsFrontTo}
use Rattle.rel_hull.proofs.rounds.round.Given as goal
use Rattle.rel_hull.specs.Table.{HasChainsBelow, table_points}

abbrev pub invariant-loop-next : goal.invariant-loop-next
invariant-loop-next g l = record {
  front : IsFrontTo l.ring.corners (table_points l.chains) l.first l.round.items l.next;
  few : length l.round.items ≤ l.chains.count;
  steps : (d : ℕ) → HasChainsBelow d l.chains → l.steps ≤ l.fn.steps + 3 * l.chains.count * l.chains.count * l.chains.count
      + 2 * l.chains.count * l.chains.count * (d + 8) + length l.round.items * (l.chains.count * (d + 8));
}

abbrev pub decreases-loop-next : goal.decreases-loop-next
decreases-loop-next g l = length (table_points l.chains) - length l.round.items
