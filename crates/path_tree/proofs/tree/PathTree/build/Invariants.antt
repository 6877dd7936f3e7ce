use Rattle.std.proofs.Common.{◌+◌, ◌*◌, ◌<◌, ◌≤◌, length}
use Rattle.shared_seq.specs.Digits.{binary_digits}
use Rattle.path_tree.proofs.tree.PathTree.build.Given as goal
use Rattle.path_tree.specs.Growing.{HasGrown}

abbrev pub invariant-loop-p : goal.invariant-loop-p
invariant-loop-p g l =
    let corners = g.T.Turns.corners l.board in
    let b = binary_digits (length corners) in
    record {
      later : 0 < l.p;
      grown : HasGrown corners (g.T.Turns.start l.board) l.mesh l.order.items l.p l.growth;
      steps : l.steps ≤ l.fn.steps + l.p * (200 * (b * b));
    }
