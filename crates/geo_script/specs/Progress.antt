-- How far a piece of a script is answered. No public clause cites this module.
use Rattle.std.specs.Prelude.{◌≡◌, ◌||◌, Bool, false, if◌then◌else◌, ℕ, List}
use Rattle.geo_text.specs.Records.{Unread}
use Rattle.geo_session.specs.State.{State}
use Rattle.geo_script.specs.Answered.{AnsweredSoFar}
use Rattle.geo_script.specs.Dialog.{Talk, is_some, records_in}

-- the part of the script that the next piece is, before its first record
abbrev pub part_of : Talk → List ℕ → Unread
part_of talk piece = record { left = records_in talk piece; next = if talk.known then 1 else 0; version = talk.state.version; failed = false }

-- the first records of the piece are answered, and the rest are left
pub record PieceSoFar (before : Talk) (piece : List ℕ) (script : Unread) (begun' known' : Bool) (state : State) (text : List ℕ) : Type 0 where
  pub answered : AnsweredSoFar (part_of before piece) script before.state state text
  pub begun : begun' ≡ (before.begun || is_some answered.first)
  pub known : known' ≡ (before.known || is_some answered.first)
