-- The corners that a cut leaves. This project's own. No public clause cites this module.
use Rattle.std.specs.Prelude.{ℕ, ◌+◌, ◌-◌, ◌*◌, ◌<◌, ◌≤◌, List, length}
use Rattle.plane.specs.Point.{Triple}
use Rattle.plane.specs.Region.{corner_at}
use Rattle.half_cut.specs.Outline.{IsRightOf, Line}

-- from this corner on, each so many places after the one before, so many are right of the line, and the next is not
pub record IsRightRun (line : Line) (corners : List Triple) (from step count : ℕ) : Type 0 where
  pub within : count ≤ length corners
  pub right : (k : ℕ) → k < count → IsRightOf line (corner_at corners (from + k * step))
  pub end : count < length corners → ¬ IsRightOf line (corner_at corners (from + count * step))

-- of so many corners from this one on the first and the last are not right of the line, and those before and after them are
pub record IsBlock (line : Line) (corners : List Triple) (start count : ℕ) : Type 0 where
  pub within : start < length corners
  pub some : 0 < count
  pub rest : count < length corners
  pub first : ¬ IsRightOf line (corner_at corners start)
  pub last : ¬ IsRightOf line (corner_at corners (start + (count - 1)))
  pub next : IsRightOf line (corner_at corners (start + count))
  pub before : IsRightOf line (corner_at corners (start + (length corners - 1)))
