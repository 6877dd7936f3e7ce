-- The lines of each reply. This project's own.
use Rattle.std.specs.Prelude.{ℕ, ◌+◌, ◌++◌, List, [], ◌∷◌, length, codes, flat_map}
use Rattle.plane.specs.Point.{Point, Triple}
use Rattle.rings.specs.Visible.{Part}
use Rattle.geo_text.specs.Words.{text_of}
use Rattle.geo_text.specs.Texts.{bad_text, hom_text, index_text, pt_text}
use Rattle.inside_test.specs.declared.position.Position.{Position}
use Rattle.inside_test.specs.declared.position.Position.TheVariants as position
use Rattle.taut_check.specs.declared.verdict.Verdict.{Verdict}
use Rattle.taut_check.specs.declared.verdict.Verdict.TheVariants as verdict
use Rattle.geo_reply.specs.declared.reply.Before.{Before}
use Rattle.geo_reply.specs.declared.reply.Before.TheVariants as before
use Rattle.geo_reply.specs.declared.reply.Reply.{Reply}
use Rattle.geo_reply.specs.declared.reply.Reply.TheVariants as reply
use Rattle.geo_reply.specs.declared.reply.Side.{Side}

-- ---- one line

-- a word and a number
abbrev pub count_text : List ℕ → ℕ → List ℕ
count_text word count = word ++ index_text count ++ codes "\n"

-- where a point lies
abbrev pub place_text : Position → List ℕ
place_text position.Inside = codes "inside\n"
place_text position.Edge = codes "edge\n"
place_text position.Outside = codes "outside\n"

-- a broken rule and the place of the point
abbrev pub broken_text : List ℕ → ℕ → List ℕ
broken_text rule place = codes "not," ++ rule ++ index_text place ++ codes "\n"

-- a verdict; there is no line for a list of no points, which no command has
abbrev pub verdict_text : Verdict → List ℕ
verdict_text verdict.Taut = codes "taut\n"
verdict_text verdict.Empty = []
verdict_text (verdict.Repeat k) = broken_text (codes "repeat") k
verdict_text (verdict.Leaves k) = broken_text (codes "leaves") k
verdict_text (verdict.NotReflex k) = broken_text (codes "not_reflex") k
verdict_text (verdict.Straight k) = broken_text (codes "straight") k
verdict_text (verdict.WrongSide k) = broken_text (codes "wrong_side") k

-- a word and some numbers: how many there are, and then each
abbrev pub numbers_text : List ℕ → List ℕ → List ℕ
numbers_text word numbers = word ++ index_text (length numbers) ++ flat_map index_text numbers ++ codes "\n"

-- a word, and points: how many there are, and then each
abbrev pub points_text : List ℕ → List Point → List ℕ
points_text word points = word ++ index_text (length points) ++ flat_map pt_text points ++ codes "\n"

-- the points of a path
abbrev pub path_text : List Point → List ℕ
path_text points = points_text (codes "path") points

-- ---- a line for each

-- a part of an edge: the number of the edge, and the ends of the part
abbrev pub part_text : Part → List ℕ
part_text part = codes "part" ++ index_text part.edge ++ hom_text part.first ++ hom_text part.last ++ codes "\n"

-- a corner
abbrev pub corner_text : Triple → List ℕ
corner_text corner = codes "corner" ++ hom_text corner ++ codes "\n"

-- a side: the numbers of the points that it joins, and the points of its path
abbrev pub side_text : Side → List ℕ
side_text side = points_text (codes "side" ++ index_text side.start ++ index_text side.end) side.path

-- two vertices that see each other
abbrev pub sight_text : ℕ × ℕ → List ℕ
sight_text pair = codes "sight" ++ index_text pair.0 ++ index_text pair.1 ++ codes "\n"

-- what comes before a vertex, in letters
abbrev pub before_text : Before → List ℕ
before_text before.Nothing = codes ",-"
before_text before.Source = codes ",s"
before_text (before.Vertex j) = index_text j

-- and before vertex i
abbrev pub from_text : ℕ → Before → List ℕ
from_text i before = codes "from" ++ index_text i ++ before_text before ++ codes "\n"

-- and before each from vertex i on
abbrev pub froms_text : ℕ → List Before → List ℕ
froms_text i [] = []
froms_text i (before ∷ rest) = from_text i before ++ froms_text (i + 1) rest

-- ---- the replies

-- a word, how many lines follow, and then these
abbrev pub lines_text : {T : Type 0} → List ℕ → (T → List ℕ) → List T → List ℕ
lines_text word line items = count_text word (length items) ++ flat_map line items

abbrev pub reply_text : Reply → List ℕ
reply_text (reply.Number asked number) = count_text (text_of asked) number
reply_text (reply.Refused fault) = bad_text fault
reply_text (reply.Place place) = place_text place
reply_text (reply.Verdict found) = verdict_text found
reply_text (reply.Path points) = path_text points
reply_text (reply.Tree befores) = count_text (codes "tree") (length befores) ++ froms_text 0 befores
reply_text (reply.View parts) = lines_text (codes "see") part_text parts
reply_text (reply.Kernel corners) = lines_text (codes "kernel") corner_text corners
reply_text (reply.Hull sides) = lines_text (codes "hull") side_text sides
reply_text (reply.Round numbers) = numbers_text (codes "round") numbers
reply_text (reply.Guards numbers) = numbers_text (codes "guards") numbers
reply_text (reply.Sights pairs) = lines_text (codes "sights") sight_text pairs
