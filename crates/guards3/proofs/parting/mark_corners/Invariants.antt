use Rattle.std.proofs.Common.{◌≡◌, length}
use Rattle.guards3.proofs.parting.mark_corners.Given as goal
use Rattle.guards3.specs.Parting.{AreMarks, corner_count}

abbrev pub invariant-loop-tri : goal.invariant-loop-tri
invariant-loop-tri l = record {
  count : length l.marks ≡ length l.fn.marks;
  marks : AreMarks l.marks (corner_count l.tris l.tri-index);
}
