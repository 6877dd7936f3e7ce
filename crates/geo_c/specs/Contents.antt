-- What a reply holds: numbers, points and fractions. This project's own.
use Rattle.std.specs.Prelude.{ℕ, ◌/◌, ◌%◌, ◌^◌, List, [], ◌∷◌, length, map, flat_map}
use Rattle.plane.specs.Point.{Point}
use Rattle.rings.specs.Visible.{Part}
use Rattle.geo_text.specs.declared.command.Bad.{Bad}
use Rattle.geo_text.specs.declared.command.Bad.TheVariants as bad
use Rattle.taut_check.specs.declared.verdict.Verdict.{Verdict}
use Rattle.taut_check.specs.declared.verdict.Verdict.TheVariants as verdict
use Rattle.geo_reply.specs.declared.reply.Before.{Before}
use Rattle.geo_reply.specs.declared.reply.Before.TheVariants as before
use Rattle.geo_reply.specs.declared.reply.Reply.{Reply}
use Rattle.geo_reply.specs.declared.reply.Reply.TheVariants as reply
use Rattle.geo_reply.specs.declared.reply.Side.{Side}
use Rattle.geo_c.specs.Fractions.{Fraction, fractions_of_corners, fractions_of_parts}
use Rattle.geo_c.specs.Status.{place_of}
use Rattle.geo_c.specs.declared.counts.GeoCounts.{GeoCounts}
use Rattle.geo_c.specs.declared.numbers.TheConstants.{NOTHING, SOURCE}

-- ---- numbers

-- the two halves of a number of 64 bits, the low one first
abbrev pub halves_of : ℕ → List ℕ
halves_of number = number % (2 ^ 32) ∷ number / (2 ^ 32) ∷ []

-- those that a refusal names
abbrev pub bad_numbers : Bad → List ℕ
bad_numbers (bad.Number place) = place ∷ []
bad_numbers (bad.Range place) = place ∷ []
bad_numbers (bad.Clash i j) = i ∷ j ∷ []
bad_numbers (bad.Outside number) = number ∷ []
bad_numbers (bad.Index place) = place ∷ []
bad_numbers other = []

-- 0 for a taut chain, or the number of the broken rule and the place of the point; no command has a list of no points
abbrev pub verdict_numbers : Verdict → List ℕ
verdict_numbers verdict.Taut = 0 ∷ []
verdict_numbers verdict.Empty = []
verdict_numbers (verdict.Repeat k) = 1 ∷ k ∷ []
verdict_numbers (verdict.Leaves k) = 2 ∷ k ∷ []
verdict_numbers (verdict.NotReflex k) = 3 ∷ k ∷ []
verdict_numbers (verdict.Straight k) = 4 ∷ k ∷ []
verdict_numbers (verdict.WrongSide k) = 5 ∷ k ∷ []

-- what comes before a vertex
abbrev pub before_number : Before → ℕ
before_number before.Nothing = NOTHING
before_number before.Source = SOURCE
before_number (before.Vertex j) = j

-- the edge of a part
abbrev pub edge_of : Part → ℕ
edge_of part = part.edge

-- the points that a side joins, and how many its path has
abbrev pub side_numbers : Side → List ℕ
side_numbers side = side.start ∷ side.end ∷ length side.path ∷ []

-- two vertices that see each other
abbrev pub sight_numbers : ℕ × ℕ → List ℕ
sight_numbers pair = pair.0 ∷ pair.1 ∷ []

abbrev pub numbers_of : Reply → List ℕ
numbers_of (reply.Number asked number) = halves_of number
numbers_of (reply.Refused fault) = bad_numbers fault
numbers_of (reply.Place position) = place_of position ∷ []
numbers_of (reply.Verdict found) = verdict_numbers found
numbers_of (reply.Path points) = []
numbers_of (reply.Tree befores) = map before_number befores
numbers_of (reply.View parts) = map edge_of parts
numbers_of (reply.Kernel corners) = []
numbers_of (reply.Hull sides) = flat_map side_numbers sides
numbers_of (reply.Round numbers) = numbers
numbers_of (reply.Guards numbers) = numbers
numbers_of (reply.Sights pairs) = flat_map sight_numbers pairs

-- ---- points: those of a path, or of all sides of a hull, one after the other

abbrev pub side_points : Side → List Point
side_points side = side.path

abbrev pub points_of : Reply → List Point
points_of (reply.Path points) = points
points_of (reply.Hull sides) = flat_map side_points sides
points_of other = []

-- ---- fractions: x and y of both ends of each part, or of each corner of a kernel

abbrev pub fractions_of : Reply → List Fraction
fractions_of (reply.View parts) = fractions_of_parts parts
fractions_of (reply.Kernel corners) = fractions_of_corners corners
fractions_of other = []

-- ---- how much it is

abbrev pub counts_of : Reply → GeoCounts
counts_of answered =
    record { numbers = length (numbers_of answered); points = length (points_of answered); fractions = length (fractions_of answered) }
