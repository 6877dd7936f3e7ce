use Rattle.std.proofs.Common.{ℕ, ◌≤◌, length}
use Rattle.tri_mesh.proofs.sides.link_at.Given as goal
use Rattle.tri_mesh.specs.Neighbours.{AreKept, AreSeen, HasMore, IsLastAt, sides_of, up_to}

-- from some place on, the sides at the corner were seen, and the last one before it is the next
abbrev pub invariant-loop-last : goal.invariant-loop-last
invariant-loop-last l = record {
  seen : let sides = sides_of l.tris l.befores in (count : ℕ) × (count ≤ length sides) × IsLastAt sides l.v count l.last
      × AreSeen sides l.v count (length l.fn.rows.items) (length l.fn.marks) l.rows.items l.marks;
  more : HasMore l.fn.rows.items l.rows.items;
  kept : AreKept l.v l.fn.marks l.marks;
}

abbrev pub decreases-loop-last : goal.decreases-loop-last
decreases-loop-last l = up_to l.last
