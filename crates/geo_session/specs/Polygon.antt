-- What a polygon is answered. This project's own, after the definition of a simple polygon.
use Rattle.std.specs.Prelude.{◌≡◌, ℕ, List, length}
use Rattle.plane.specs.Point.{Point}
use Rattle.rings.specs.Simple.{IsLeastClash, IsSimple}
use Rattle.geo_text.specs.declared.command.Bad.TheVariants as bad
use Rattle.geo_text.specs.declared.word.Word.TheVariants as word
use Rattle.geo_reply.specs.declared.reply.Reply.{Reply}
use Rattle.geo_reply.specs.declared.reply.Reply.TheVariants as reply

-- a simple polygon is accepted, and another one is refused by its least clash
pub data IsPolygonReply (ring : List Point) (answered : Reply) : Type 0 where
  accepted : IsSimple ring → answered ≡ reply.Number word.Polygon (length ring) → IsPolygonReply ring answered
  clashing : (i j : ℕ) → IsLeastClash ring i j → answered ≡ reply.Refused (bad.Clash i j) → IsPolygonReply ring answered
