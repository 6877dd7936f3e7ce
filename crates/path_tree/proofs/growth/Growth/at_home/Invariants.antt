use Rattle.std.proofs.Common.{◌≡◌, ◌+◌, ◌<◌, ◌≤◌, ℕ, length, slice_index}
use Rattle.path_tree.proofs.GrownOver.{HasParent}
use Rattle.path_tree.proofs.growth.Growth.at_home.Given as goal

abbrev pub invariant-loop-corner : goal.invariant-loop-corner
invariant-loop-corner g l = record {
  vertices : length l.before.items ≡ length (g.T.Turns.corners l.board);
  parents : (k : ℕ) → k < l.corner-index
      → HasParent (g.T.Turns.corners l.board) (g.T.Turns.start l.board) l.before.items (slice_index l.corner-items k);
  steps : l.steps ≤ l.fn.steps + l.corner-index;
}
