-- What a region keeps: its corners, and for each the line along which its side goes on to the next. This project's own.
use Rattle.std.specs.Prelude.{◌≡◌, ◌≢◌, ℕ, ◌+◌, ◌-◌, ◌^◌, ◌<◌, ◌≤◌, ◌⊎◌, ◌++◌, List, None, Option, Some, drop, length, pos, slice_index_or, take}
use Rattle.plane.specs.Convex.{AreConvex, corner}
use Rattle.plane.specs.Order.{Precedes}
use Rattle.plane.specs.Point.{Point, Triple, whole}
use Rattle.plane.specs.Turn.{IsRight, IsStraight}

-- two points of a line
abbrev pub Line : Type 0
Line = Point × Point

-- the corners, and the lines of the sides
pub record Outline : Type 0 where
  pub corners : List Triple
  pub lines : List Line

-- line i
abbrev pub line_at : List Line → ℕ → Line
line_at lines i = slice_index_or lines i (record { x = pos 0; y = pos 0 }, record { x = pos 0; y = pos 0 })

-- p is on the line
abbrev pub IsOnLine : Line → Triple → Type 0
IsOnLine line p = IsStraight (whole line.0) (whole line.1) p

-- p is right of it
abbrev pub IsRightOf : Line → Triple → Type 0
IsRightOf line p = IsRight (whole line.0) (whole line.1) p

-- each corner and the next one are on the corner's line
pub record AreLinked (corners : List Triple) (lines : List Line) : Type 0 where
  pub as_many : length lines ≡ length corners
  pub two_points : (i : ℕ) → i < length lines → (line_at lines i).0 ≢ (line_at lines i).1
  pub begins : (i : ℕ) → i < length corners → IsOnLine (line_at lines i) (corner corners i)
  pub goes_on : (i : ℕ) → i + 1 < length corners → IsOnLine (line_at lines i) (corner corners (i + 1))

-- and after the last corner comes the first
pub record AreLinkedRound (corners : List Triple) (lines : List Line) : Type 0 where
  pub linked : AreLinked corners lines
  pub closes : 0 < length corners → IsOnLine (line_at lines (length lines - 1)) (corner corners 0)

-- the line goes on from the last of the first m corners, or from one more, to which that corner's line goes
abbrev pub LineGoesOn : List Triple → List Line → ℕ → Option Triple → Line → Type 0
LineGoesOn corners lines m None line = IsOnLine line (corner corners (m - 1))
LineGoesOn corners lines m (Some x) line = IsOnLine line x × IsOnLine (line_at lines (m - 1)) x

-- the last line comes round to the first corner, or to one more, from which this line does
abbrev pub ComesRound : List Triple → List Line → Option Triple → Line → Type 0
ComesRound corners lines None line = IsOnLine (line_at lines (length lines - 1)) (corner corners 0)
ComesRound corners lines (Some x) line =
    IsOnLine (line_at lines (length lines - 1)) x × IsOnLine line x × IsOnLine line (corner corners 0)

-- no corner is right of a line
abbrev pub AreNoneRight : List Triple → List Line → Type 0
AreNoneRight corners lines = (i j : ℕ) → i < length lines → j < length corners → ¬ IsRightOf (line_at lines i) (corner corners j)

-- each of the lines is one of the old ones, or the new one
abbrev pub AreOf : (old : List Line) → Line → List Line → Type 0
AreOf old new lines = (i : ℕ) → i < length lines → ((j : ℕ) × (j < length old × (line_at lines i ≡ line_at old j))) ⊎ (line_at lines i ≡ new)

-- a list that is read from this place on, and round
abbrev pub from_place : {X : Type 0} → ℕ → List X → List X
from_place t xs = drop t xs ++ take t xs

-- no corner comes before that at this place
abbrev pub IsLeast : List Triple → ℕ → Type 0
IsLeast corners place = (i : ℕ) → i < length corners → ¬ Precedes (corner corners i) (corner corners place)

-- what holds of every region, as its corners and lines stand, and of the place of the least
pub record IsRegionKept (corners : List Triple) (lines : List Line) (place : ℕ) : Type 0 where
  pub convex : AreConvex corners
  pub within : place ≤ length corners
  pub some : 0 < length corners → place < length corners
  pub least : IsLeast corners place
  pub round : AreLinkedRound corners lines
  pub beside : AreNoneRight corners lines
  pub few : length corners ≤ 2 ^ 31
