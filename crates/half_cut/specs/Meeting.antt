-- Where the line of a side meets that of a cut. This project's own. No public clause cites this module.
use Rattle.std.specs.Prelude.{◌≡◌, ◌≢◌, ℕ, ◌+◌, ◌<◌, ◌≤◌, IfSome, IsNone, IsSome, List, Option, length, pos}
use Rattle.plane.specs.Convex.{AreConvex, corner}
use Rattle.plane.specs.Line.{cross_product}
use Rattle.plane.specs.Point.{IsPoint, Triple, whole}
use Rattle.plane.specs.Region.{corner_at}
use Rattle.plane.specs.Turn.{IsLeft}
use Rattle.half_cut.specs.Outline.{AreLinkedRound, IsOnLine, IsRightOf, Line}

-- of the corners, counterclockwise round, the first some are not right of the cut, and the others are
pub record IsTail (cut : Line) (corners : List Triple) (lines : List Line) (count : ℕ) : Type 0 where
  pub differ : cut.0 ≢ cut.1
  pub convex : AreConvex corners
  pub round : AreLinkedRound corners lines
  pub some : 0 < count
  pub rest : count < length corners
  pub stay : (i : ℕ) → i < count → ¬ IsRightOf cut (corner corners i)
  pub go : (i : ℕ) → count ≤ i → i < length corners → IsRightOf cut (corner corners i)

-- the meeting is on the side's line and on the cut, and there is one where the corner is left of the cut and the lines cross
pub record IsLineMeeting (cut side : Line) (corner : Triple) (x : Option Triple) : Type 0 where
  pub rational : IfSome x IsPoint
  pub on_line : IfSome x (IsOnLine side)
  pub on_cut : IfSome x (IsOnLine cut)
  pub some : IsSome x → IsLeft (whole cut.0) (whole cut.1) corner
  pub none : IsNone x → IsLeft (whole cut.0) (whole cut.1) corner → cross_product side.0 side.1 cut.0 cut.1 ≡ pos 0

-- the side of the cut goes from the corner at this place, which is on the line behind it, to the next, which is on the line before it
pub record IsCutSide (cut behind before : Line) (corners : List Triple) (place : ℕ) : Type 0 where
  pub within : place < length corners
  pub from_cut : IsOnLine cut (corner corners place)
  pub from_behind : IsOnLine behind (corner corners place)
  pub to_cut : IsOnLine cut (corner_at corners (place + 1))
  pub to_before : IsOnLine before (corner_at corners (place + 1))
