use Rattle.std.proofs.Common.{◌≡◌, ◌≤◌, length, take}
use Rattle.std.specs.Prelude.{vec_capacity}
use Rattle.guards3.proofs.guarding.triangles_of.Given as goal

abbrev pub invariant-loop-k : goal.invariant-loop-k
invariant-loop-k l = record {
  taken : l.tris.items ≡ take l.k l.mesh;
  room : length l.mesh ≤ vec_capacity l.tris;
}
