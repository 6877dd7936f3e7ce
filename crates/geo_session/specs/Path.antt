-- What `path` and `reach` answer. This project's own, after Lee and Preparata 1984 and Guibas and others 1987.
use Rattle.std.specs.Prelude.{◌≡◌, List, [], ◌∷◌, Option, None, Some, Vec}
use Rattle.std.specs.declared.alloc.Global.{Global}
use Rattle.plane.specs.Point.{Point}
use Rattle.geo_text.specs.declared.command.Bad.TheVariants as bad
use Rattle.geo_text.specs.declared.version.Version.{Version}
use Rattle.geo_session.specs.Shown.{IsShownPath}
use Rattle.geo_session.specs.Told.{RepliesWithin, Tells}
use Rattle.geo_reply.specs.declared.reply.Reply.{Reply}
use Rattle.geo_reply.specs.declared.reply.Reply.TheVariants as reply

-- what is told of the path from s to t
abbrev pub TellsPath : Version → List Point → Point → Point → Reply → Type 0
TellsPath version ring s t = Tells reply.Path (IsShownPath version ring s t)

-- so it is where both are in the polygon
abbrev pub IsPathReply : Version → List Point → Point → Point → Reply → Type 0
IsPathReply version ring s t = RepliesWithin ring (s ∷ t ∷ []) (TellsPath version ring s t)

-- and from the source of the tree, if there is one, where t is in it
abbrev pub IsReachReply : Version → List Point → Option Point → Point → Reply → Type 0
IsReachReply version ring None t answered = answered ≡ reply.Refused bad.NoTree
IsReachReply version ring (Some s) t answered = RepliesWithin ring (t ∷ []) (TellsPath version ring s t) answered

-- points in a vector, as the reply that tells them
abbrev pub path_of : Vec Point Global → Reply
path_of points = reply.Path points.items
