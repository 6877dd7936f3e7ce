-- Sight along a sleeve: what two points in its end triangles have to meet to see each other. Lee and Preparata 1984.
use Rattle.std.specs.Prelude.{◌↔◌, ℕ, ◌<◌, List, length}
use Rattle.plane.specs.Point.{IsPoint, Point, Triple, whole}
use Rattle.plane.specs.Segment.{Meet}
use Rattle.rings.specs.Ring.{vertex}
use Rattle.rings.specs.Sees.{Sees}
use Rattle.meshes.specs.Fits.{Fits, IsInTri}
use Rattle.meshes.specs.Side.{tri_at}
use Rattle.meshes.specs.Sleeve.{Sleeve, diagonal_at}
use Rattle.meshes.specs.declared.tri.Tri.{Tri}

-- the segment from p to q meets every diagonal of the sleeve
abbrev pub MeetsDiagonals : List Point → Sleeve → Triple → Triple → Type 0
MeetsDiagonals corners sleeve p q = (i : ℕ) → i < length sleeve.diagonals
    → Meet p q (whole (vertex corners (diagonal_at sleeve i).left)) (whole (vertex corners (diagonal_at sleeve i).right))

-- in each ring that the triangles fit, a rational point of the first triangle sees one of the last exactly if the segment
-- between them meets every diagonal of the sleeve
abbrev pub SeesThrough : List Tri → ℕ → ℕ → Sleeve → Type 0
SeesThrough tris from to sleeve = (corners : List Point) → Fits corners tris → (p q : Triple) → IsPoint p → IsPoint q
    → IsInTri corners (tri_at tris from) p → IsInTri corners (tri_at tris to) q
    → Sees corners p q ↔ MeetsDiagonals corners sleeve p q
