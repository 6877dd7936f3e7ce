use Rattle.std.proofs.Common.{◌+◌, ◌<◌, ◌≤◌}
use Rattle.std.specs.Prelude.{IfSome, IsSome}
use Rattle.triangle_boxes.proofs.hierarchy.Hierarchy.next_leaf.Given as goal

abbrev pub invariant-nodes : goal.invariant-nodes
invariant-nodes g l = record {
  few : IfSome l.found (λ leaf. leaf.1 ≤ 4);
  enough : IsSome l.found → l.enough ≤ l.spared + 1;
  fewer : IsSome l.found → l.spared < l.cursor.spared;
  no_more : l.spared ≤ l.cursor.spared;
  paid : l.steps + l.spared ≤ l.initial.steps + l.cursor.spared;
}

abbrev pub decreases-nodes : goal.decreases-nodes
decreases-nodes g l = l.spared
