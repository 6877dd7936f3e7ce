-- Closed convex regions by their corners: nothing, a point, a segment, or a strictly convex polygon. As in the textbooks.
use Rattle.std.specs.Prelude.{◌≡◌, ◌↔◌, ℕ, ◌+◌, ◌%◌, ◌<◌, ◌≤◌, List, [], ◌∷◌, length, pos, slice_index_or}
use Rattle.plane.specs.Order.{Precedes}
use Rattle.plane.specs.Point.{IsPoint, IsSame, Triple}
use Rattle.plane.specs.Segment.{On}
use Rattle.plane.specs.Turn.{IsLeft, IsRight}

-- corner i, counted round
abbrev pub corner_at : List Triple → ℕ → Triple
corner_at corners i = slice_index_or corners (i % length corners) (record { X = pos 0; Y = pos 0; W = pos 1 })

-- the rational point p is right of no side of the polygon
abbrev pub IsRightOfNone : List Triple → Triple → Type 0
IsRightOfNone corners p = (i : ℕ) → i < length corners → ¬ IsRight (corner_at corners i) (corner_at corners (i + 1)) p

-- p is in the region with these corners
abbrev pub IsInRegion : List Triple → Triple → Type 0
IsInRegion [] p = ⊥
IsInRegion (a ∷ []) p = IsSame p a
IsInRegion (a ∷ b ∷ []) p = On p a b
IsInRegion (a ∷ b ∷ c ∷ corners) p = IsRightOfNone (a ∷ b ∷ c ∷ corners) p

-- the corners of a region: two differ, three or more are strictly convex and run counterclockwise, and the first is the
-- lexicographically least
pub record AreCorners (corners : List Triple) : Type 0 where
  pub rational : (i : ℕ) → i < length corners → IsPoint (corner_at corners i)
  pub different : length corners ≡ 2 → ¬ IsSame (corner_at corners 0) (corner_at corners 1)
  pub convex : 3 ≤ length corners → (i j : ℕ) → i < length corners → j < length corners
      → ¬ (j ≡ i) → ¬ (j ≡ (i + 1) % length corners) → IsLeft (corner_at corners i) (corner_at corners (i + 1)) (corner_at corners j)
  pub least : (i : ℕ) → i < length corners → ¬ Precedes (corner_at corners i) (corner_at corners 0)

-- they are the corner list of a set of rational points
pub record IsCornerList (set : Triple → Type 0) (corners : List Triple) : Type 0 where
  pub are_corners : AreCorners corners
  pub exact : (p : Triple) → IsPoint p → IsInRegion corners p ↔ set p
