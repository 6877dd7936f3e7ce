use Rattle.std.proofs.Common.{ℕ, ◌+◌, ◌-◌, ◌*◌, ◌%◌, ◌^◌, ◌<◌, ◌≤◌, length}
use Rattle.exact_plane.proofs.Halves.{IsPaid}
use Rattle.half_cut.proofs.seek.sides_before.Given as goal
use Rattle.half_cut.specs.Outline.{line_at}
use Rattle.half_cut.specs.Seek.{ComesBefore}

abbrev pub invariant-loop-low : goal.invariant-loop-low
invariant-loop-low g l =
    let n = length l.lines.items in
    record {
      ordered : l.low ≤ l.high;
      inside : l.high ≤ n;
      last : 0 < l.low → ComesBefore (line_at l.lines.items ((l.from + (l.low - 1)) % n)) l.line;
      next : l.high < n → ¬ ComesBefore (line_at l.lines.items ((l.from + l.high) % n)) l.line;
      steps : (d : ℕ) → n < 2 ^ d → IsPaid (l.high - l.low) l.steps (l.fn.steps + 2 * d + 1);
    }

abbrev pub decreases-loop-low : goal.decreases-loop-low
decreases-loop-low g l = l.high - l.low
