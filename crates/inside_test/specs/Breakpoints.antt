-- Where a segment meets the edges of a ring: points enough to tell whether it lies in the ring. This project's own. No public
-- clause cites this module.
use Rattle.std.specs.List.{All, Contains}
use Rattle.std.specs.Prelude.{◌≡◌, ◌⊎◌, ℕ, ◌+◌, ◌<◌, ◌≤◌, List, [], ◌∷◌, ◌++◌, length, map}
use Rattle.plane.specs.Point.{IsPoint, IsSame, Point, Triple, whole}
use Rattle.plane.specs.Segment.{On}
use Rattle.rings.specs.Ring.{vertex}
use Rattle.inside_test.specs.declared.breakpoint.Breakpoint.{Breakpoint}

-- z is between two listed points, and both are on the segment from c to d
pub record IsEnclosed (points : List Triple) (c d z : Triple) : Type 0 where
  pub u : Triple
  pub v : Triple
  pub u_listed : Contains points u
  pub v_listed : Contains points v
  pub u_on : On u c d
  pub v_on : On v c d
  pub between : On z u v

-- so is each rational point that the segments from a to b and from c to d have in common
abbrev pub EnclosesAll : List Triple → (a b c d : Triple) → Type 0
EnclosesAll points a b c d = (z : Triple) → IsPoint z → On z a b → On z c d → IsEnclosed points c d z

-- a rational point on the segment from a to b
abbrev pub IsPointOn : (a b p : Triple) → Type 0
IsPointOn a b p = IsPoint p × On p a b

-- the new points are the old ones and others on the segment from a to b
pub record ExtendsOnSegment (a b : Triple) (old new : List Triple) : Type 0 where
  pub longer : length old ≤ length new
  pub kept : (p : Triple) → Contains old p → Contains new p
  pub placed : All (IsPointOn a b) old → All (IsPointOn a b) new

-- a listed rational point is the same as p
pub record IsListed (points : List Triple) (p : Triple) : Type 0 where
  pub point : Triple
  pub rational : IsPoint point
  pub listed : Contains points point
  pub same : IsSame p point

-- p was appended, or the list stayed, where a point of it is the same
abbrev pub Lists : Triple → List Triple → List Triple → Type 0
Lists p old new = (new ≡ old ++ p ∷ []) ⊎ ((new ≡ old) × IsListed old p)

-- points on the segment from a to b: both ends, and enough to enclose all that it has in common with the first n edges
pub record ListsMeetings (ring : List Point) (n : ℕ) (a b : Triple) (points : List Triple) : Type 0 where
  pub several : 2 ≤ length points
  pub placed : All (IsPointOn a b) points
  pub has_first : Contains points a
  pub has_last : Contains points b
  pub enclosed : (i : ℕ) → i < n → EnclosesAll points a b (whole (vertex ring i)) (whole (vertex ring (i + 1)))

-- the points of a list
abbrev pub breakpoint_points : List Breakpoint → List Triple
breakpoint_points breakpoints = map (λ k. k.point) breakpoints
