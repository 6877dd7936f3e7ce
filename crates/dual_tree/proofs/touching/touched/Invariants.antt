use Rattle.std.proofs.Common.{◌≡◌, ◌+◌, ◌*◌, ◌≤◌, vec_capacity}
use Rattle.dual_tree.proofs.Searched.{IsSearched}
use Rattle.dual_tree.proofs.touching.touched.Given as goal

abbrev pub invariant-loop-i : goal.invariant-loop-i
invariant-loop-i g l = record {
  searched : IsSearched l.ring.corners l.mesh l.sleeve l.chain l.fn.out.items l.i l.reached.place l.reached.last l.out.items;
  same_out : vec_capacity l.out ≡ vec_capacity l.fn.out;
  few_steps : l.steps ≤ l.fn.steps + 10 * l.i;
}
