-- What `pair` and `sights` answer. This project's own.
use Rattle.std.specs.Prelude.{◌≡◌, ℕ, ℤ, pos, ◌<◌, ◌≤◌, List, length}
use Rattle.plane.specs.Point.{Point}
use Rattle.rings.specs.Ring.{vertex}
use Rattle.geo_text.specs.declared.command.Bad.TheVariants as bad
use Rattle.geo_text.specs.declared.version.Version.{Version}
use Rattle.pair_cut.specs.Pairs.{AreSights}
use Rattle.pair_cut.specs.declared.table.TheConstants.{MAX_PAIRED}
use Rattle.geo_session.specs.Path.{TellsPath}
use Rattle.geo_session.specs.Told.{Tells}
use Rattle.geo_reply.specs.declared.reply.Reply.{Reply}
use Rattle.geo_reply.specs.declared.reply.Reply.TheVariants as reply

-- the ring has few enough vertices for the table of all pairs
abbrev pub IsSmall : List Point → Type 0
IsSmall ring = length ring ≤ MAX_PAIRED

-- z is the number k of a vertex of the ring
pub record IsVertexNumber (ring : List Point) (z : ℤ) (k : ℕ) : Type 0 where
  pub in_ring : k < length ring
  pub is : z ≡ pos k

-- z is the number of a vertex
abbrev pub IsIndex : List Point → ℤ → Type 0
IsIndex ring z = (k : ℕ) × IsVertexNumber ring z k

-- a ring of too many vertices is refused, then the first of the numbers that is none of a vertex, or else the path between the two is told
pub data IsPairReply (version : Version) (ring : List Point) (i j : ℤ) (answered : Reply) : Type 0 where
  too_many : ¬ IsSmall ring → answered ≡ reply.Refused bad.Large → IsPairReply version ring i j answered
  first_off : IsSmall ring → ¬ IsIndex ring i → answered ≡ reply.Refused (bad.Index 1) → IsPairReply version ring i j answered
  second_off : IsSmall ring → IsIndex ring i → ¬ IsIndex ring j → answered ≡ reply.Refused (bad.Index 2) → IsPairReply version ring i j answered
  joined : IsSmall ring → (k l : ℕ) → IsVertexNumber ring i k → IsVertexNumber ring j l → TellsPath version ring (vertex ring k) (vertex ring l) answered
      → IsPairReply version ring i j answered

-- a ring of too many vertices is refused, and of another one the pairs of vertices that see each other are told
pub data AreSightsReply (ring : List Point) (answered : Reply) : Type 0 where
  too_large : ¬ IsSmall ring → answered ≡ reply.Refused bad.Large → AreSightsReply ring answered
  sighted : IsSmall ring → Tells reply.Sights (AreSights ring) answered → AreSightsReply ring answered
