use Rattle.std.proofs.Common.{ℕ, ◌+◌, ◌-◌, ◌*◌, ◌^◌, ◌<◌, ◌≤◌, length}
use Rattle.exact_plane.proofs.Halves.{IsPaid}
use Rattle.ring_check.proofs.status.place_of.Given as goal

abbrev pub invariant-loop-low : goal.invariant-loop-low
invariant-loop-low g l =
    (l.low ≤ l.high) × (l.high ≤ length l.status)
    × ((d : ℕ) → length l.status < 2 ^ d → IsPaid (l.high - l.low) l.steps (l.fn.steps + 2 * d))

abbrev pub decreases-loop-low : goal.decreases-loop-low
decreases-loop-low g l = l.high - l.low
