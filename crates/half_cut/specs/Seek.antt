-- Where the way of a line stands among those of the sides. This project's own. No public clause cites this module.
use Rattle.std.specs.Prelude.{◌↔◌, ◌⊎◌, ℕ, ◌+◌, ◌-◌, ◌%◌, ◌<◌, ◌≤◌, ◌<ℤ◌, List, length, pos}
use Rattle.plane.specs.Line.{cross_product}
use Rattle.plane.specs.Order.{IsBefore}
use Rattle.half_cut.specs.Outline.{Line, line_at}

-- a line's way goes up: to the right, or straight upward
abbrev pub IsUpward : Line → Type 0
IsUpward line = IsBefore line.0 line.1

-- it turns left to that of another
abbrev pub TurnsLeftTo : Line → Line → Type 0
TurnsLeftTo line other = pos 0 <ℤ cross_product line.0 line.1 other.0 other.1

-- it comes before that of another, where ways go round counterclockwise from straight down
abbrev pub ComesBefore : Line → Line → Type 0
ComesBefore line other = (IsUpward line × ¬ IsUpward other) ⊎ ((IsUpward line ↔ IsUpward other) × TurnsLeftTo line other)

-- of the sides, counted round from this one on, so many come before it
pub record AreEarlierSides (line : Line) (lines : List Line) (from count : ℕ) : Type 0 where
  pub within : count ≤ length lines
  pub last : 0 < count → ComesBefore (line_at lines ((from + (count - 1)) % length lines)) line
  pub next : count < length lines → ¬ ComesBefore (line_at lines ((from + count) % length lines)) line

-- it is between those of the sides into a corner and out of it
pub record IsFacing (line : Line) (lines : List Line) (at : ℕ) : Type 0 where
  pub ahead : ¬ TurnsLeftTo (line_at lines at) line
  pub back : ¬ TurnsLeftTo line (line_at lines ((at + (length lines - 1)) % length lines))
