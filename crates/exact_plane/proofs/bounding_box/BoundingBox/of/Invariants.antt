use Rattle.std.proofs.Common.{◌≡◌, ◌+◌, ◌*◌, ◌<◌, ℕ, get_or}
use Rattle.plane.specs.Point.{IsInBounds, Point}
use Rattle.exact_plane.specs.Boxes.{Encloses}
use Rattle.exact_plane.proofs.bounding_box.BoundingBox.of.Given as goal

abbrev pub invariant-loop-k : goal.invariant-loop-k
invariant-loop-k g l = ((j : ℕ) → j < l.k → (other : Point) → Encloses l.around (get_or l.points j other)
    × IsInBounds (get_or l.points j other)) × (l.steps ≡ l.fn.steps + 64 * l.k)
