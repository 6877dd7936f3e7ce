use Rattle.std.proofs.Common.{◌≡◌, None, replicate}
use Rattle.path_tree.proofs.growth.none_each.Given as goal

abbrev pub invariant-loop : goal.invariant-loop
invariant-loop g l = l.all.items ≡ replicate l.counter None
