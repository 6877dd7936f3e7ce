use Rattle.std.proofs.Common.{◌≡◌, ◌+◌, length}
use Rattle.meshes.proofs.Sides.{LieAlong}
use Rattle.tri_mesh.proofs.sleeve.Sleeve.along.Given as goal

abbrev pub invariant-loop-i : goal.invariant-loop-i
invariant-loop-i l = record {
  count : length l.diagonals.items + 1 ≡ l.i;
  along : LieAlong l.mesh l.walk.items l.diagonals.items;
}
