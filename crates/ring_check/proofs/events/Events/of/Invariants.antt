use Rattle.std.proofs.Common.{ℕ, ◌+◌, ◌<◌, ◌≤◌}
use Rattle.rings.specs.Events.{IsEvent}
use Rattle.ring_check.proofs.events.Events.of.Given as goal

abbrev pub invariant-loop-k : goal.invariant-loop-k
invariant-loop-k g l = ((k : ℕ) → k < l.k → IsEvent l.points l.order l.ranks k) × (l.steps ≤ l.fn.steps + l.k)
