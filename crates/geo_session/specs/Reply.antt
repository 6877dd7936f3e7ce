-- What each command answers, as a value, and the state that it leaves. This project's own.
use Rattle.std.specs.Prelude.{◌≡◌, [], ◌∷◌, Option, None, Some, Result}
use Rattle.plane.specs.Point.{Point, whole}
use Rattle.rings.specs.Kernel.{IsKernel}
use Rattle.geo_text.specs.declared.command.Bad.{Bad}
use Rattle.geo_text.specs.declared.command.Bad.TheVariants as bad
use Rattle.geo_text.specs.declared.command.Command.{Command}
use Rattle.geo_text.specs.declared.command.Command.TheVariants as command
use Rattle.geo_text.specs.declared.version.Version.{Version}
use Rattle.geo_text.specs.declared.version.Version.TheVariants as version
use Rattle.geo_text.specs.declared.word.Word.TheVariants as word
use Rattle.taut_check.specs.Verdict.{IsVerdict}
use Rattle.geo_session.specs.Guards.{GuardRing}
use Rattle.geo_session.specs.Hull.{AreSidesOf}
use Rattle.geo_session.specs.Pairs.{AreSightsReply, IsPairReply}
use Rattle.geo_session.specs.Path.{IsPathReply, IsReachReply}
use Rattle.geo_session.specs.Place.{IsPlace}
use Rattle.geo_session.specs.Polygon.{IsPolygonReply}
use Rattle.geo_session.specs.Round.{AreRound}
use Rattle.geo_session.specs.State.{Kept, State}
use Rattle.geo_session.specs.Told.{RepliesWithin, Tells, reply_of}
use Rattle.geo_session.specs.Tree.{AreFrom}
use Rattle.geo_session.specs.View.{IsView}
use Rattle.geo_reply.specs.declared.reply.Reply.{Reply}
use Rattle.geo_reply.specs.declared.reply.Reply.TheVariants as reply

-- what the commands that ask of a polygon answer of it; the other two ask of none
abbrev pub IsReplyIn : Version → Kept → Command → Reply → Type 0
IsReplyIn version kept (command.Inside p) answered = Tells reply.Place (IsPlace kept.ring p) answered
IsReplyIn version kept (command.Check points) answered = Tells reply.Verdict (IsVerdict kept.ring points) answered
IsReplyIn version kept (command.Path s t) answered = IsPathReply version kept.ring s t answered
IsReplyIn version kept (command.Tree s) answered = RepliesWithin kept.ring (s ∷ []) (Tells reply.Tree (AreFrom kept.ring s)) answered
IsReplyIn version kept (command.Reach t) answered = IsReachReply version kept.ring kept.source t answered
IsReplyIn version kept (command.See q) answered = RepliesWithin kept.ring (q ∷ []) (Tells reply.View (IsView kept.ring (whole q))) answered
IsReplyIn version kept command.Kernel answered = Tells reply.Kernel (IsKernel kept.ring) answered
IsReplyIn version kept (command.Hull points) answered = RepliesWithin kept.ring points (Tells reply.Hull (AreSidesOf version kept.ring points)) answered
IsReplyIn version kept (command.Round points) answered = RepliesWithin kept.ring points (Tells reply.Round (AreRound kept.ring points)) answered
IsReplyIn version kept command.Guards answered = Tells reply.Guards (GuardRing kept.ring) answered
IsReplyIn version kept (command.Pair i j) answered = IsPairReply version kept.ring i j answered
IsReplyIn version kept command.Sights answered = AreSightsReply kept.ring answered
IsReplyIn version kept other answered = ⊥

-- so they do if there is a polygon
abbrev pub IsReplyOf : Version → Option Kept → Command → Reply → Type 0
IsReplyOf version None asked answered = answered ≡ reply.Refused bad.NoPolygon
IsReplyOf version (Some kept) asked answered = IsReplyIn version kept asked answered

-- what a command answers in a state
abbrev pub IsReply : State → Command → Reply → Type 0
IsReply before command.Two answered = answered ≡ reply.Number word.Two 2
IsReply before (command.Polygon ring) answered = IsPolygonReply ring answered
IsReply before asked answered = IsReplyOf before.version before.kept asked answered

-- the polygon with this source of a tree in it, if there is a polygon
abbrev pub with_source : Point → Option Kept → Option Kept
with_source s None = None
with_source s (Some kept) = Some (record { ring = kept.ring; source = Some s })

-- the state after a reply: version 2 begins with no polygon, an accepted polygon takes the place of the one before, with no tree in it yet,
-- a tree that is told leaves its source, and nothing else changes the state
abbrev pub state_after : State → Command → Reply → State
state_after before command.Two answered = record { version = version.Two; kept = None }
state_after before (command.Polygon ring) (reply.Number asked count) = record { version = before.version; kept = Some (record { ring = ring; source = None }) }
state_after before (command.Tree s) (reply.Tree befores) = record { version = before.version; kept = with_source s before.kept }
state_after before asked answered = before

-- what a call gives back for a command, a value or a refusal, is such a reply
abbrev pub IsFound : {V : Type 0} → State → Command → (V → Reply) → Result V Bad → Type 0
IsFound before asked kind found = IsReply before asked (reply_of kind found)
