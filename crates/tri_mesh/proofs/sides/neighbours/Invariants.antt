use Rattle.std.proofs.Common.{◌≡◌, ℕ, ◌+◌, ◌<◌, ◌≤◌, length, Some}
use Rattle.tri_mesh.proofs.sides.neighbours.Given as goal
use Rattle.tri_mesh.specs.Neighbours.{AreLinkedRows, HaveOwners, IsLastAt, mark_at, sides_of}

-- the sides whose higher corner was come to are linked, and the others have the last one at theirs
abbrev pub invariant-loop-v : goal.invariant-loop-v
invariant-loop-v l = record {
  linked : AreLinkedRows (length l.tris) (sides_of l.tris l.befores.items) l.rows.items;
  owners : HaveOwners (sides_of l.tris l.befores.items) l.v l.rows.items;
  count : length l.marks.items ≡ length l.tris + 2;
  in_list : (i p : ℕ) → mark_at l.marks.items i ≡ Some p → p < length (sides_of l.tris l.befores.items);
  lasts : (i : ℕ) → l.v ≤ i → i < length l.marks.items
      → IsLastAt (sides_of l.tris l.befores.items) i (length (sides_of l.tris l.befores.items)) (mark_at l.marks.items i);
}
