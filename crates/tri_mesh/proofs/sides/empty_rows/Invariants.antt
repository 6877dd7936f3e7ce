use Rattle.std.proofs.Common.{◌≡◌, ◌≤◌, replicate}
use Rattle.std.specs.Prelude.{vec_capacity}
use Rattle.tri_mesh.proofs.sides.empty_rows.Given as goal
use Rattle.tri_mesh.specs.Neighbours.{empty_row}

abbrev pub invariant-loop : goal.invariant-loop
invariant-loop l = record {
  rows : l.rows.items ≡ replicate l.counter empty_row;
  room : l.count ≤ vec_capacity l.rows;
}
