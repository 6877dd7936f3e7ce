use Rattle.std.proofs.Common.{ℕ, ◌+◌, ◌*◌, ◌≤◌, get_or, length}
use Rattle.rel_hull.proofs.hull.sides_among.Given as goal
use Rattle.rel_hull.specs.Table.{HasChainsBelow}
use Rattle.rel_hull.specs.Told.{AreSidesBefore}

abbrev pub invariant-loop-s : goal.invariant-loop-s
invariant-loop-s g l = record {
  sides : AreSidesBefore l.chains l.outer (get_or l.outer l.s-index l.chains.count, 0) l.sides.items;
  few : length l.sides.items ≤ l.s-index;
  steps : (d : ℕ) → HasChainsBelow d l.chains → l.steps ≤ l.fn.steps + l.s-index * (2 * length l.outer * (d + 8));
}
