-- What contracts see of a session beside its state: whether it has the table of all pairs of vertices, which no answer depends on. This
-- project's own.
use Rattle.std.specs.Prelude.{◌≡◌, ℕ, ℤ, ◌*◌, if◌then◌else◌, Bool, true, false, Option, None, Some}
use Rattle.rings.specs.Simple.{IsSimple}
use Rattle.geo_text.specs.Version.{by_version}
use Rattle.geo_text.specs.declared.command.Command.{Command}
use Rattle.geo_text.specs.declared.command.Command.TheVariants as command
use Rattle.geo_text.specs.declared.version.Version.{Version}
use Rattle.shared_seq.specs.Digits.{binary_digits}
use Rattle.geo_session.specs.Pairs.{IsIndex, IsSmall}
use Rattle.geo_session.specs.State.{Kept, State, first_state, size_of}

-- the state, and whether the table is there
pub record Seen : Type 0 where
  pub state : State
  pub prepared : Bool

-- at first it is not
abbrev pub first_seen : Seen
first_seen = record { state = first_state; prepared = false }

-- such a record is not refused: there is a polygon, with few enough vertices,
abbrev pub TellsAllPairs : Option Kept → Type 0
TellsAllPairs None = ⊥
TellsAllPairs (Some kept) = IsSmall kept.ring

-- and both numbers are of vertices
abbrev pub TellsPair : Option Kept → ℤ → ℤ → Type 0
TellsPair None i j = ⊥
TellsPair (Some kept) i j = IsSmall kept.ring × IsIndex kept.ring i × IsIndex kept.ring j

-- a record that is not refused makes the table or keeps it; a refused one changes nothing
pub record IsPreparedBy (Told : Type 0) (before after : Bool) : Type 0 where
  pub told : Told → after ≡ true
  pub refused : ¬ Told → after ≡ before

-- it is dropped with the polygon
pub record IsDroppedBy (Accepted : Type 0) (before after : Bool) : Type 0 where
  pub accepted : Accepted → after ≡ false
  pub refused : ¬ Accepted → after ≡ before

-- whether the table is there after a command; the others, which do not ask for pairs of vertices, leave it as it is
abbrev pub IsPreparedAfter : Option Kept → Command → Bool → Bool → Type 0
IsPreparedAfter kept command.Two before after = after ≡ false
IsPreparedAfter kept (command.Polygon ring) before after = IsDroppedBy (IsSimple ring) before after
IsPreparedAfter kept (command.Pair i j) before after = IsPreparedBy (TellsPair kept i j) before after
IsPreparedAfter kept command.Sights before after = IsPreparedBy (TellsAllPairs kept) before after
IsPreparedAfter kept other before after = after ≡ before

-- so many steps are enough to make the table where it is not there
abbrev pub table_steps : Seen → ℕ
table_steps seen = let n = size_of seen.state.kept in let b = binary_digits n in if seen.prepared then 0 else 200 * (n * n) * (b * b)

-- and so many more for the vertices that the path of a pair touches, which version 2 tells
abbrev pub pair_pace : Version → ℕ
pair_pace version = by_version version 0 20
