-- How many steps commands take. This project's own.
use Rattle.std.specs.Prelude.{◌≡◌, ◌⊎◌, ℕ, ◌+◌, ◌*◌, ◌≤◌, List, [], ◌++◌, length, OnErr, OnOk, Result}
use Rattle.plane.specs.Point.{Point}
use Rattle.geo_text.specs.Version.{by_version}
use Rattle.geo_text.specs.declared.command.Command.{Command}
use Rattle.geo_text.specs.declared.command.Command.TheVariants as command
use Rattle.geo_text.specs.declared.version.Version.{Version}
use Rattle.shared_seq.specs.Digits.{binary_digits}
use Rattle.geo_session.specs.Prepared.{Seen, pair_pace, table_steps}
use Rattle.geo_session.specs.Reply.{IsReply}
use Rattle.geo_reply.specs.ReplyText.{path_text}
use Rattle.geo_reply.specs.Written.{written_steps}
use Rattle.geo_session.specs.State.{size_of}
use Rattle.geo_reply.specs.declared.reply.Reply.{Reply}

-- so many steps a vertex are enough to tell a path from one point to another, beside those of its points,
abbrev pub path_pace : Version → ℕ
path_pace version = by_version version 16 36

-- and one from the source of the tree
abbrev pub reach_pace : Version → ℕ
reach_pace version = by_version version 3 26

-- so many steps are enough to triangulate a polygon,
abbrev pub mesh_steps : ℕ → ℕ
mesh_steps n = 192 * n + 200 * n * binary_digits n

-- and to test a list of points before,
abbrev pub polygon_steps : ℕ → ℕ
polygon_steps n = 214 * (n * n) + 1400 * (n * (binary_digits n + 4)) + mesh_steps n

-- to find the guards, for which diagonals are flipped,
abbrev pub guards_steps : ℕ → ℕ
guards_steps n = 24 * (n * n)

-- to place a point,
abbrev pub inside_steps : ℕ → ℕ
inside_steps n = 1280 * n + 65

-- to check a list of m points: each of them for itself, and before by a search by halves for a part that is a path,
abbrev pub check_steps : ℕ → ℕ → ℕ
check_steps n m = (5302 * n + 8) * m + (binary_digits m + 1) * (5300 * n + m)

-- to find a relative hull: the paths between each two of its m points, which are compared, and what is told of its sides,
abbrev pub hull_steps : Version → ℕ → ℕ → ℕ
hull_steps version n m = m * (by_version version 3 23 * n + m * (4 * n + 3 * m + 47))

-- its round,
abbrev pub round_steps : ℕ → ℕ → ℕ
round_steps n m = m * (3 * n + m * (4 * n + 3 * m + 70))

-- what a point sees, from its triangle outward,
abbrev pub view_steps : ℕ → ℕ
view_steps n = 17 * n

-- and for the kernel, which each edge cuts in turn by a search by halves
abbrev pub kernel_steps : ℕ → ℕ
kernel_steps n = n * (2 * binary_digits n + 147)

-- so many steps are enough for the reply to a command, before a line of it is written; n is the number of vertices, and b that of its
-- binary digits
abbrev pub most_steps : Seen → Command → ℕ
most_steps seen command.Two = 0
most_steps seen (command.Polygon points) = polygon_steps (length points)
most_steps seen (command.Inside p) = inside_steps (size_of seen.state.kept)
most_steps seen (command.Check points) = check_steps (size_of seen.state.kept) (length points)
most_steps seen (command.Path s t) = path_pace seen.state.version * size_of seen.state.kept
most_steps seen (command.Tree s) = let n = size_of seen.state.kept in let b = binary_digits n in 3 * n + 200 * n * (b * b)
most_steps seen (command.Reach t) =
    let n = size_of seen.state.kept in let b = binary_digits n in reach_pace seen.state.version * n + 24 * (b * b)
most_steps seen (command.See q) = view_steps (size_of seen.state.kept)
most_steps seen command.Kernel = kernel_steps (size_of seen.state.kept)
most_steps seen (command.Hull points) = hull_steps seen.state.version (size_of seen.state.kept) (length points)
most_steps seen (command.Round points) = round_steps (size_of seen.state.kept) (length points)
most_steps seen command.Guards = guards_steps (size_of seen.state.kept)
most_steps seen (command.Pair i j) = table_steps seen + pair_pace seen.state.version * size_of seen.state.kept
most_steps seen command.Sights = table_steps seen

abbrev pub IsPaced : Seen → Command → ℕ → ℕ → Type 0
IsPaced seen asked steps steps' = steps' ≤ steps + most_steps seen asked

-- so many are enough with the lines of the reply, also where want of memory cuts these off
abbrev pub TakesSteps : Seen → Command → ℕ → ℕ → Type 0
TakesSteps seen asked steps steps' =
    (answered : Reply) → IsReply seen.state asked answered → steps' ≤ steps + most_steps seen asked + written_steps answered

-- so many steps and 64 for each point whose line was appended are enough
pub record TakesPathSteps (most : ℕ) (out out' : List ℕ) (steps steps' : ℕ) : Type 0 where
  pub points : List Point
  pub printed : (out' ≡ out ++ path_text points) ⊎ (points ≡ [])
  pub bound : steps' ≤ steps + most + 64 * length points

-- so they are after Ok, and after want of memory without any of the points
abbrev pub TakesPathStepsOrNone : {E : Type 0} → ℕ → Result (Unit {0}) E → List ℕ → List ℕ → ℕ → ℕ → Type 0
TakesPathStepsOrNone most put out out' steps steps' = OnOk put (TakesPathSteps most out out' steps steps') × OnErr put (steps' ≤ steps + most)

-- the steps of a command and of its lines, by what was appended; those of other commands are bounded by `TakesSteps` alone
abbrev pub TakesWritingSteps : {E : Type 0} → Seen → Command → Result (Unit {0}) E → List ℕ → List ℕ → ℕ → ℕ → Type 0
TakesWritingSteps seen (command.Path s t) put out out' steps steps' = TakesPathStepsOrNone (most_steps seen (command.Path s t)) put out out' steps steps'
TakesWritingSteps seen (command.Reach t) put out out' steps steps' = TakesPathStepsOrNone (most_steps seen (command.Reach t)) put out out' steps steps'
TakesWritingSteps seen (command.Pair i j) put out out' steps steps' = TakesPathStepsOrNone (most_steps seen (command.Pair i j)) put out out' steps steps'
TakesWritingSteps seen (command.Tree s) put out out' steps steps' = IsPaced seen (command.Tree s) steps steps'
TakesWritingSteps seen command.Sights put out out' steps steps' = IsPaced seen command.Sights steps steps'
TakesWritingSteps seen other put out out' steps steps' = Unit {0}
