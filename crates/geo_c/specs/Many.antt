-- What a call gives back for many questions in whole numbers. This project's own.
use Rattle.std.specs.List.{AllZip, flat_map}
use Rattle.std.specs.Prelude.{◌≡◌, ◌≤◌, ◌<◌, ◌-◌, ◌⊎◌, ℕ, List, [], ◌∷◌, Result, Ok, Err, Vec, length, map, take, drop}
use Rattle.std.specs.declared.alloc.Global.{Global}
use Rattle.plane.specs.Point.{Point}
use Rattle.geo_text.specs.declared.command.Bad.{Bad}
use Rattle.geo_text.specs.declared.command.Command.TheVariants as command
use Rattle.inside_test.specs.declared.position.Position.{Position}
use Rattle.geo_reply.specs.declared.reply.Reply.TheVariants as reply
use Rattle.geo_session.specs.Path.{path_of}
use Rattle.geo_session.specs.Reply.{IsFound}
use Rattle.geo_script.specs.Asked.{IsAskedWithin}
use Rattle.geo_script.specs.Dialog.{Talk}
use Rattle.geo_c.specs.Filled.{filled_by}
use Rattle.geo_c.specs.Status.{place_of, status_of}
use Rattle.geo_c.specs.declared.status.TheConstants.{OK}

-- ---- the places of points

-- where a point lies in the polygon of a talk, or the refusal
abbrev pub IsPlaceFound : Talk → Point → Result Position Bad → Type 0
IsPlaceFound talk p found = IsAskedWithin talk.state.version (p.x ∷ p.y ∷ []) (IsFound talk.state (command.Inside p) reply.Place) found

-- the number of the place, or the status of the refusal
abbrev pub place_number : Result Position Bad → ℕ
place_number (Ok position) = place_of position
place_number (Err bad) = status_of bad

-- these points have their places in the front of a buffer, in turn
pub record ArePlacesTold (talk : Talk) (points : List Point) (before after : List ℕ) : Type 0 where
  pub founds : List (Result Position Bad)
  pub hold : AllZip (IsPlaceFound talk) points founds
  pub told : after ≡ filled_by (map place_number founds) before

-- ---- the paths between pairs of points

-- two points, one after the other, are a pair; a last one that is alone is in none
abbrev pub point_pairs_of : List Point → List (Point × Point)
point_pairs_of [] = []
point_pairs_of (s ∷ []) = []
point_pairs_of (s ∷ t ∷ rest) = (s, t) ∷ point_pairs_of rest

-- what is told of the path between the points of a pair, or the refusal
abbrev pub IsPathFound : Talk → Point × Point → Result (Vec Point Global) Bad → Type 0
IsPathFound talk ends found =
    IsAskedWithin talk.state.version (ends.0.x ∷ ends.0.y ∷ ends.1.x ∷ ends.1.y ∷ []) (IsFound talk.state (command.Path ends.0 ends.1) path_of) found

abbrev pub path_status : Result (Vec Point Global) Bad → ℕ
path_status (Ok points) = OK
path_status (Err bad) = status_of bad

-- a refusal has no points
abbrev pub path_points : Result (Vec Point Global) Bad → List Point
path_points (Ok points) = points.items
path_points (Err bad) = []

abbrev pub path_length : Result (Vec Point Global) Bad → ℕ
path_length found = length (path_points found)

-- the buffers of a call: for the points of all paths, one path after the other, and for each path its status and the count of its points
pub record Buffers : Type 0 where
  pub points : List Point
  pub statuses : List ℕ
  pub lengths : List ℕ

-- the pairs that have room for a status and a count
abbrev pub asked_pairs : List Point → Buffers → List (Point × Point)
asked_pairs ends before = take (length before.statuses) (take (length before.lengths) (point_pairs_of ends))

-- the first of these pairs has a path with more points than there is room for
pub record IsTooLong (talk : Talk) (pairs : List (Point × Point)) (room : ℕ) : Type 0 where
  pub next : Point × Point
  pub later : List (Point × Point)
  pub comes : pairs ≡ next ∷ later
  pub found : Result (Vec Point Global) Bad
  pub holds : IsPathFound talk next found
  pub too_long : room < path_length found

-- the first pairs, this many, have their paths in the front of the buffers, each whole; where the status is OK all are told, or the next one has no room
pub record ArePathsTold (talk : Talk) (pairs : List (Point × Point)) (status done : ℕ) (before after : Buffers) : Type 0 where
  pub founds : List (Result (Vec Point Global) Bad)
  pub many : length founds ≡ done
  pub hold : AllZip (IsPathFound talk) (take done pairs) founds
  pub fit : length (flat_map path_points founds) ≤ length before.points
  pub points_told : after.points ≡ filled_by (flat_map path_points founds) before.points
  pub statuses_told : after.statuses ≡ filled_by (map path_status founds) before.statuses
  pub lengths_told : after.lengths ≡ filled_by (map path_length founds) before.lengths
  pub ended : status ≡ OK → (done ≡ length pairs) ⊎ IsTooLong talk (drop done pairs) (length before.points - length (flat_map path_points founds))
