use Rattle.std.proofs.Common.{◌≡◌, ◌<◌, ◌≤◌, ℕ, [], length, take}
use Rattle.std.specs.Prelude.{slice_index_or, vec_capacity}
use Rattle.flip_tri.proofs.flips.Flips.of.Given as goal
use Rattle.flip_tri.specs.Shared.{IsRowOf}

abbrev pub invariant-loop-k : goal.invariant-loop-k
invariant-loop-k l = record {
  tris : l.tris.items ≡ take l.k l.mesh;
  count : length l.neighbours.items ≡ l.k;
  rows : (i : ℕ) → i < l.k → IsRowOf l.mesh i (slice_index_or l.neighbours.items i []);
  tris_room : l.count ≤ vec_capacity l.tris;
  rows_room : l.count ≤ vec_capacity l.neighbours;
}
