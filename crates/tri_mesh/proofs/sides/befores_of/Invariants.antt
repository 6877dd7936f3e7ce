use Rattle.std.proofs.Common.{◌≡◌, ◌*◌, ◌≤◌, length}
use Rattle.std.specs.Prelude.{vec_capacity}
use Rattle.tri_mesh.proofs.sides.befores_of.Given as goal
use Rattle.tri_mesh.specs.Neighbours.{AreChained, sides_of}

abbrev pub invariant-loop-tri : goal.invariant-loop-tri
invariant-loop-tri l = record {
  number : length l.befores.items ≡ 3 * l.tri-index;
  count : length l.marks ≡ length l.fn.marks;
  chained : AreChained (sides_of l.tris l.befores.items) l.marks;
  room : 3 * length l.tris ≤ vec_capacity l.befores;
}
