use Rattle.std.proofs.Common.{ℕ, ◌<◌, get_or}
use Rattle.ring_check.proofs.events.are_below.Given as goal

abbrev pub invariant-loop-i : goal.invariant-loop-i
invariant-loop-i l = (k d : ℕ) → k < l.i → get_or l.numbers k d < l.n
