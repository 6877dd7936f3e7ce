-- Points on a line, the directions of two lines, and the mediant of two points. As in the textbooks.
use Rattle.std.specs.Prelude.{ℤ, ◌+ℤ◌, ◌-ℤ◌, ◌*ℤ◌}
use Rattle.plane.specs.Point.{Point, Triple}

-- the cross product of the ways from a to b and from c to d: 0 where they are parallel, or one of them is no way
abbrev pub cross_product : Point → Point → Point → Point → ℤ
cross_product a b c d = ((b.x -ℤ a.x) *ℤ (d.y -ℤ c.y)) -ℤ ((b.y -ℤ a.y) *ℤ (d.x -ℤ c.x))

-- the point that is s / w of the way from a to b
abbrev pub along : Point → Point → ℤ → ℤ → Triple
along a b s w = record {
  X = (a.x *ℤ w) +ℤ ((b.x -ℤ a.x) *ℤ s);
  Y = (a.y *ℤ w) +ℤ ((b.y -ℤ a.y) *ℤ s);
  W = w;
}

-- the mediant of two points
abbrev pub mediant : Triple → Triple → Triple
mediant p q = record { X = p.X +ℤ q.X; Y = p.Y +ℤ q.Y; W = p.W +ℤ q.W }
