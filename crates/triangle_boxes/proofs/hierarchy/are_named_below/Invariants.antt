use Rattle.std.proofs.Common.{ℕ, ◌<◌, get_or}
use Rattle.triangle_boxes.specs.Hierarchy.{IsNamedBelow}
use Rattle.triangle_boxes.specs.declared.hierarchy.Node.{Node}
use Rattle.triangle_boxes.proofs.hierarchy.are_named_below.Given as goal

abbrev pub invariant-loop-i : goal.invariant-loop-i
invariant-loop-i l = (k : ℕ) → (d : Node) → k < l.i → IsNamedBelow l.n (get_or l.nodes k d)
