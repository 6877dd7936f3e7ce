use Rattle.std.proofs.Common.{◌≡◌, ◌-◌, ◌++◌, vec_capacity}
use Rattle.funnel_walk.proofs.chain.close.Given as goal
use Rattle.funnel_walk.specs.Names.{right_names}

abbrev pub invariant-loop-i : goal.invariant-loop-i
invariant-loop-i g l = record {
  given : l.out.items ≡ l.fn.out.items ++ right_names l.names.items l.apex (l.i - l.apex);
  same_out : vec_capacity l.out ≡ vec_capacity l.fn.out;
}
