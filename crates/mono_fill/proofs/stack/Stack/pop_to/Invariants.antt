use Rattle.std.proofs.Common.{◌≡◌, ◌≤◌, ◌+◌, ◌++◌, List, length}
use Rattle.meshes.specs.declared.tri.Tri.{Tri}
use Rattle.mono_fill.specs.Stacks.{ArePopped}
use Rattle.mono_fill.proofs.stack.Stack.pop_to.Given as goal

abbrev pub invariant-loop-self : goal.invariant-loop-self
invariant-loop-self g l = record {
  side : l.self.side ≡ l.fn.self.side;
  steps : l.steps + length l.self.vertices.items ≤ l.fn.steps + length l.fn.self.vertices.items;
  popped : (tris : List Tri) × (l.out.items ≡ l.fn.out.items ++ tris)
      × ArePopped (g.T.Turns.corners l.board) l.fn.self.side l.x l.fn.self.vertices.items l.self.vertices.items tris;
}

abbrev pub decreases-loop-self : goal.decreases-loop-self
decreases-loop-self g l = length l.self.vertices.items
