use Rattle.std.proofs.Common.{◌+◌, ◌-◌, ◌*◌, length}
use Rattle.exact_plane.proofs.Halves.{IsPaid}
use Rattle.sweep_tri.proofs.Search.{IsBetween}
use Rattle.shared_seq.specs.Digits.{binary_digits}
use Rattle.sweep_tri.proofs.status.Status.place.Given as goal

-- a half costs one step, so each is counted twice
abbrev pub invariant-loop-low : goal.invariant-loop-low
invariant-loop-low g l = record {
  between : IsBetween (g.T.Turns.corners l.board) l.self l.v l.low l.high;
  steps : IsPaid (l.high - l.low) (2 * l.steps) (2 * (l.fn.steps + binary_digits (length l.self)));
}

abbrev pub decreases-loop-low : goal.decreases-loop-low
decreases-loop-low g l = l.high - l.low
