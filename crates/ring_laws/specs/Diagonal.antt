-- Diagonals of a ring, in the sense of the textbooks.
use Rattle.std.specs.Prelude.{List}
use Rattle.plane.specs.Prelude.{IsPoint, On, Point, Triple, whole}
use Rattle.rings.specs.Apart.{MeetAtEnds}
use Rattle.rings.specs.Prelude.{Edge, edge, edges_of, HasEdge, IsIn}

-- the segment from a to b meets the edges of the ring only at common ends, and each rational point of it is in the ring
pub record IsDiagonal (ring : List Point) (a b : Point) : Type 0 where
  pub meets : (e : Edge) → HasEdge (edges_of ring) e → MeetAtEnds e (edge a b)
  pub inside : (x : Triple) → IsPoint x → On x (whole a) (whole b) → IsIn ring x
