use Rattle.std.proofs.Common.{◌≢◌, ℕ, ◌+◌, ◌*◌, ◌≤◌}
use Rattle.std.specs.List.{Contains}
use Rattle.rel_hull.proofs.TableSides.{IsEndOfFirst}
use Rattle.rel_hull.proofs.hull.side_end.Given as goal
use Rattle.rel_hull.specs.Table.{HasChainsBelow}

abbrev pub invariant-loop-t : goal.invariant-loop-t
invariant-loop-t g l = record {
  other : l.end ≢ l.s → Contains l.outer l.end;
  first : IsEndOfFirst l.chains l.outer l.s l.t-index l.end;
  steps : (d : ℕ) → HasChainsBelow d l.chains → l.steps ≤ l.fn.steps + l.t-index * (d + 8);
}
