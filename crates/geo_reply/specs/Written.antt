-- How many steps the lines of a reply take. This project's own.
use Rattle.std.specs.List.{sum_by}
use Rattle.std.specs.Prelude.{ℕ, ◌+◌, ◌*◌, ◌≤◌, length}
use Rattle.plane.specs.Point.{Triple}
use Rattle.rings.specs.Visible.{Part}
use Rattle.geo_reply.specs.declared.reply.Reply.{Reply}
use Rattle.geo_reply.specs.declared.reply.Reply.TheVariants as reply
use Rattle.geo_reply.specs.declared.reply.Side.{Side}

-- 64 for each point: for a corner of a kernel, for the ends of a part, and for a side of a hull
abbrev pub corner_steps : Triple → ℕ
corner_steps corner = 64

abbrev pub part_steps : Part → ℕ
part_steps part = 128

abbrev pub side_steps : Side → ℕ
side_steps side = 64 * length side.path

-- those of all lines of a reply; numbers and words take none
abbrev pub written_steps : Reply → ℕ
written_steps (reply.Path points) = 64 * length points
written_steps (reply.View parts) = 128 * length parts
written_steps (reply.Kernel corners) = 64 * length corners
written_steps (reply.Hull sides) = sum_by side_steps sides
written_steps other = 0

-- so many are enough for the lines of a reply
abbrev pub WritesSteps : Reply → ℕ → ℕ → Type 0
WritesSteps answered steps steps' = steps' ≤ steps + written_steps answered

-- so many are enough where memory is refused: the room for the line of a path is reserved before its first point is read
abbrev pub refused_steps : Reply → ℕ
refused_steps (reply.Path points) = 0
refused_steps other = written_steps other
