use Rattle.std.proofs.Common.{◌<◌, ℕ}
use Rattle.std.specs.List.{All, Contains}
use Rattle.edge_index.proofs.kinds.pad.Given as goal

abbrev pub invariant-loop : goal.invariant-loop
invariant-loop l = record {
  range : (n : ℕ) → All (λ e. e < n) l.fn.edges.items → All (λ e. e < n) l.edges.items;
  old : (e : ℕ) → Contains l.fn.edges.items e → Contains l.edges.items e;
}
