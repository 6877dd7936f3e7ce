use Rattle.std.proofs.Common.{◌<◌, ℕ, length, slice_index}
use Rattle.std.specs.List.{All, Contains}
use Rattle.edge_index.proofs.kinds.edges_by_kind.Given as goal

abbrev pub invariant-loop-kind : goal.invariant-loop-kind
invariant-loop-kind l = record {
  range : All (λ e. e < length l.kinds) l.edges.items;
  each : (e : ℕ) → e < length l.kinds → slice_index l.kinds e < l.kind → Contains l.edges.items e;
}
