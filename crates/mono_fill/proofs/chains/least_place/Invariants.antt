use Rattle.std.proofs.Common.{ℕ, ◌<◌, ◌≤◌, length, slice_index}
use Rattle.mono_fill.proofs.chains.least_place.Given as goal

abbrev pub invariant-loop-place : goal.invariant-loop-place
invariant-loop-place l = record {
  in_piece : l.least < length l.piece;
  least : (k : ℕ) → k < l.place → slice_index l.rank (slice_index l.piece l.least) ≤ slice_index l.rank (slice_index l.piece k);
}
