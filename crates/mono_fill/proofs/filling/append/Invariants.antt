use Rattle.std.specs.List.{All}
use Rattle.std.proofs.Common.{◌≡◌, ◌+◌, ◌*◌, ◌<◌, ◌≤◌, length}
use Rattle.mono_fill.specs.Fillable.{IsFillable}
use Rattle.mono_fill.specs.Stacks.{Extends}
use Rattle.mono_fill.proofs.Fillings.{IsFilling}
use Rattle.mono_fill.proofs.filling.append.Given as goal

abbrev pub invariant-loop : goal.invariant-loop
invariant-loop g l = record {
  ranks : l.chains.ranks ≡ l.rank;
  size : length l.chains.ring ≡ length l.piece;
  taken : l.chains.lower + l.chains.upper + 2 ≡ l.counter;
  some : 0 < length l.stack.vertices.items;
  numbers : All (λ i. i < length (g.T.Turns.corners l.board)) l.stack.vertices.items;
  extended : Extends l.fn.out.items l.out.items;
  steps : l.steps + length l.stack.vertices.items ≤ l.fn.steps + 1 + 2 * (l.chains.lower + l.chains.upper);
  filling : IsFillable (g.T.Turns.corners l.board) l.rank l.piece
      → IsFilling (g.T.Turns.corners l.board) l.rank l.piece l.chains l.stack.side l.stack.vertices.items l.fn.out.items l.out.items;
}
