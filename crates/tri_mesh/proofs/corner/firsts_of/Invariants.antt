use Rattle.std.proofs.Common.{◌≡◌, ◌+◌, ◌≤◌, length}
use Rattle.tri_mesh.proofs.corner.firsts_of.Given as goal
use Rattle.tri_mesh.specs.Corner.{AreFirstsFrom}

-- the triangles from number k on were put to their corners
abbrev pub invariant-loop-k : goal.invariant-loop-k
invariant-loop-k l = record {
  within : l.k ≤ length l.tris;
  count : length l.firsts.items ≡ length l.tris + 2;
  firsts : AreFirstsFrom l.tris l.k l.firsts.items;
}

abbrev pub decreases-loop-k : goal.decreases-loop-k
decreases-loop-k l = l.k
