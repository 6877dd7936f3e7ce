-- Segments and the rational points on them: weighted means of the ends, as in the textbooks.
use Rattle.std.specs.Prelude.{ℕ, pos, ◌≤◌, ◌-◌, ◌+ℤ◌, ◌*ℤ◌}
use Rattle.plane.specs.Point.{IsPoint, IsSame, Triple}

-- the point that is i of j parts of the way from a to b
abbrev pub part_of_way : ℕ → ℕ → Triple → Triple → Triple
part_of_way i j a b = record {
  X = ((pos (j - i) *ℤ a.X) *ℤ b.W) +ℤ ((pos i *ℤ b.X) *ℤ a.W);
  Y = ((pos (j - i) *ℤ a.Y) *ℤ b.W) +ℤ ((pos i *ℤ b.Y) *ℤ a.W);
  W = (pos j *ℤ a.W) *ℤ b.W;
}

-- p is on the segment from a to b
pub record On (p a b : Triple) : Type 0 where
  pub i : ℕ
  pub j : ℕ
  pub positive : 1 ≤ j
  pub within : i ≤ j
  pub same : IsSame p (part_of_way i j a b)

-- a rational point is on both segments, from a to b and from c to d
pub record Meet (a b c d : Triple) : Type 0 where
  pub point : Triple
  pub rational : IsPoint point
  pub on_first : On point a b
  pub on_second : On point c d

-- every rational point on both segments, from a to b and from b to c, is b
abbrev pub MeetOnlyAt : Triple → Triple → Triple → Type 0
MeetOnlyAt a b c = (p : Triple) → IsPoint p → On p a b → On p b c → IsSame p b

-- a rational point other than b is on both of them
pub record MeetElsewhere (a b c : Triple) : Type 0 where
  pub point : Triple
  pub rational : IsPoint point
  pub on_first : On point a b
  pub on_second : On point b c
  pub elsewhere : IsSame point b → ⊥
