use Rattle.std.proofs.Common.{◌≡◌, ◌<◌, ℕ, length, slice_index}
use Rattle.std.specs.List.{All, Contains}
use Rattle.edge_index.proofs.kinds.push_kind.Given as goal

abbrev pub invariant-loop-e : goal.invariant-loop-e
invariant-loop-e l = record {
  range : All (λ e. e < length l.kinds) l.edges.items;
  old : (e : ℕ) → Contains l.fn.edges.items e → Contains l.edges.items e;
  each : (e : ℕ) → e < l.e → slice_index l.kinds e ≡ l.kind → Contains l.edges.items e;
}
