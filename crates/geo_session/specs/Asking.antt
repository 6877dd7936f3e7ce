-- What a command changes, and how its reply is known before anything is written. No public clause cites this module.
use Rattle.std.specs.Prelude.{◌≡◌, ◌⊎◌, ℕ, ℤ, true, List, Option, None, Some, Result, Ok, Err}
use Rattle.plane.specs.Point.{Point}
use Rattle.geo_text.specs.declared.command.Bad.{Bad}
use Rattle.geo_text.specs.declared.command.Bad.TheVariants as bad
use Rattle.geo_text.specs.declared.command.Command.{Command}
use Rattle.geo_text.specs.declared.command.Command.TheVariants as command
use Rattle.geo_text.specs.declared.version.Version.{Version}
use Rattle.geo_text.specs.declared.version.Version.TheVariants as version
use Rattle.pair_cut.specs.Pairs.{IsMadeFor}
use Rattle.geo_session.specs.Held.{HeldRing, IsTreeOf, kept_of, prepared_of}
use Rattle.geo_session.specs.Pairs.{IsIndex, IsSmall, IsVertexNumber}
use Rattle.geo_session.specs.Prepared.{IsPreparedAfter, Seen}
use Rattle.geo_session.specs.Reply.{IsReply, state_after}
use Rattle.geo_session.specs.declared.ask.Asked.{Asked}
use Rattle.geo_session.specs.declared.ask.Change.{Change}
use Rattle.geo_session.specs.declared.ask.Change.TheVariants as change

-- what contracts see of a session with these fields
abbrev pub seen_of : Version → Option HeldRing → Seen
seen_of version held = record { state = record { version = version; kept = kept_of held }; prepared = prepared_of held }

-- the fields after a change
abbrev pub version_after : Change → Version → Version
version_after change.Two before = version.Two
version_after other before = before

abbrev pub held_after : Change → Option HeldRing → Option HeldRing
held_after change.Nothing held = held
held_after change.Two held = None
held_after (change.Polygon new) held = Some new.value
held_after (change.Tree grown) None = None
held_after (change.Tree grown) (Some held) = Some (record { ring = held.ring; tris = held.tris; source = Some grown.source; prepared = held.prepared })
held_after (change.Table table) None = None
held_after (change.Table table) (Some held) = Some (record { ring = held.ring; tris = held.tris; source = held.source; prepared = true })

-- a new tree is one in the polygon that is held, and a new table is made for it
abbrev pub Suits : Change → Option HeldRing → Type 0
Suits (change.Tree grown) (Some held) = IsTreeOf held.ring.corners held.tris grown
Suits (change.Table table) (Some held) = IsMadeFor held.ring.corners table
Suits other held = Unit {0}

-- the reply is the command's, and the change leads to what is there after it
pub record IsAskedOf (version : Version) (held : Option HeldRing) (asked : Command) (answer : Asked) : Type 0 where
  pub is_reply : IsReply (record { version = version; kept = kept_of held }) asked answer.reply
  pub suits : Suits answer.change held
  pub state : (seen_of (version_after answer.change version) (held_after answer.change held)).state
      ≡ state_after (record { version = version; kept = kept_of held }) asked answer.reply
  pub prepared : IsPreparedAfter (kept_of held) asked (prepared_of held) (prepared_of (held_after answer.change held))

-- the command asks of a polygon, and changes nothing
abbrev pub IsPlain : Command → Type 0
IsPlain command.Two = ⊥
IsPlain (command.Polygon ring) = ⊥
IsPlain (command.Tree s) = ⊥
IsPlain (command.Pair i j) = ⊥
IsPlain command.Sights = ⊥
IsPlain other = Unit {0}

-- the vertices with these two numbers, or why there are none
abbrev pub AreAsked : List Point → ℤ → ℤ → Result (ℕ × ℕ) Bad → Type 0
AreAsked ring i j (Ok pair) = IsSmall ring × IsVertexNumber ring i pair.0 × IsVertexNumber ring j pair.1
AreAsked ring i j (Err fault) = ((¬ IsSmall ring) × (fault ≡ bad.Large))
    ⊎ (IsSmall ring × (¬ IsIndex ring i) × (fault ≡ bad.Index 1))
    ⊎ (IsSmall ring × IsIndex ring i × (¬ IsIndex ring j) × (fault ≡ bad.Index 2))
