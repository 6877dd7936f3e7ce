-- The numbers that a call gives back. This project's own.
use Rattle.std.specs.Prelude.{ℕ, ◌+◌, nat_lt, if◌then◌else◌}
use Rattle.geo_text.specs.declared.command.Bad.{Bad}
use Rattle.geo_text.specs.declared.command.Bad.TheVariants as bad
use Rattle.inside_test.specs.declared.position.Position.{Position}
use Rattle.inside_test.specs.declared.position.Position.TheVariants as position
use Rattle.geo_reply.specs.declared.reply.Reply.{Reply}
use Rattle.geo_reply.specs.declared.reply.Reply.TheVariants as reply
use Rattle.geo_c.specs.declared.status.TheConstants.{CLASH, FEW, FIELDS, INDEX, LARGE, MANY, NO_POLYGON, NO_TREE, NUMBER, OK, OUTSIDE, RANGE, WORD}

-- a status that has a place in its last digit, where it is one digit
abbrev pub with_place : ℕ → ℕ → ℕ
with_place status place = if nat_lt place 10 then status + place else status

-- the status of a refusal
abbrev pub status_of : Bad → ℕ
status_of bad.Word = WORD
status_of bad.Fields = FIELDS
status_of bad.Few = FEW
status_of bad.Many = MANY
status_of (bad.Number place) = NUMBER
status_of (bad.Range place) = with_place RANGE place
status_of (bad.Clash i j) = CLASH
status_of bad.NoPolygon = NO_POLYGON
status_of (bad.Outside number) = with_place OUTSIDE number
status_of bad.NoTree = NO_TREE
status_of (bad.Index place) = with_place INDEX place
status_of bad.Large = LARGE

-- the status of a reply
abbrev pub reply_status : Reply → ℕ
reply_status (reply.Refused fault) = status_of fault
reply_status answered = OK

-- the number of a place
abbrev pub place_of : Position → ℕ
place_of position.Outside = 0
place_of position.Inside = 1
place_of position.Edge = 2
