-- Segments that miss all edges of a list, or cross one. This project's own.
use Rattle.std.specs.Prelude.{List}
use Rattle.plane.specs.Prelude.{IsLeft, IsPoint, IsRight, On, Triple, whole}
use Rattle.rings.specs.Edge.{Edge, IsOnSome}

-- no rational point on the segment from p to q is on an edge of the list
abbrev pub Misses : Triple → Triple → List Edge → Type 0
Misses p q es = (x : Triple) → IsPoint x → On x p q → IsOnSome es x → ⊥

-- the segment from p to q crosses the edge from its left to its right, and not at an end of either
pub record CrossesRight (p q : Triple) (e : Edge) : Type 0 where
  pub starts_left : IsLeft (whole e.from) (whole e.to) p
  pub ends_right : IsRight (whole e.from) (whole e.to) q
  pub from_right : IsRight p q (whole e.from)
  pub to_left : IsLeft p q (whole e.to)
