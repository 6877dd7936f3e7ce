-- Points in convex position, counterclockwise, by their numbers. As in the textbooks.
use Rattle.std.specs.Prelude.{◌≡◌, ℕ, ◌<◌, List, length, pos, slice_index_or}
use Rattle.plane.specs.Point.{IsPoint, IsSame, Triple}
use Rattle.plane.specs.Turn.{IsLeft}

-- corner i
abbrev pub corner : List Triple → ℕ → Triple
corner corners i = slice_index_or corners i (record { X = pos 0; Y = pos 0; W = pos 1 })

-- any three corners run counterclockwise in their order, and two alone differ
pub record AreConvex (corners : List Triple) : Type 0 where
  pub rational : (i : ℕ) → i < length corners → IsPoint (corner corners i)
  pub left : (i j l : ℕ) → i < j → j < l → l < length corners → IsLeft (corner corners i) (corner corners j) (corner corners l)
  pub different : length corners ≡ 2 → ¬ IsSame (corner corners 0) (corner corners 1)
