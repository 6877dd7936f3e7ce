-- How many steps the reply and the answer to a record take. This project's own.
use Rattle.std.specs.Prelude.{◌≡◌, false, ℕ, Result, Ok, Err}
use Rattle.geo_text.specs.Reading.{TakesRecord}
use Rattle.geo_text.specs.Records.{Unread}
use Rattle.geo_text.specs.declared.command.Bad.{Bad}
use Rattle.geo_text.specs.declared.command.Command.{Command}
use Rattle.geo_session.specs.Paced.{IsPaced, TakesSteps}
use Rattle.geo_session.specs.Prepared.{Seen}
use Rattle.geo_session.specs.State.{State}

-- a refused record takes none, and a command those that it may take
abbrev pub TakesReadingSteps : Seen → Result Command Bad → ℕ → ℕ → Type 0
TakesReadingSteps seen (Ok asked) steps steps' = TakesSteps seen asked steps steps'
TakesReadingSteps seen (Err fault) steps steps' = steps' ≡ steps

-- if a record was taken from a script, those are the steps that were taken; otherwise there are none
pub data TakesRecordSteps (before after : Unread) (seen : Seen) (steps steps' : ℕ) : Type 0 where
  none : steps' ≡ steps → TakesRecordSteps before after seen steps steps'
  some : (reading : Result Command Bad) → TakesRecord before after reading → TakesReadingSteps seen reading steps steps' → TakesRecordSteps before after seen steps steps'

-- a refused record takes none, and a command those of its reply, of which no line is written
abbrev pub IsReadingPaced : Seen → Result Command Bad → ℕ → ℕ → Type 0
IsReadingPaced seen (Ok asked) steps steps' = IsPaced seen asked steps steps'
IsReadingPaced seen (Err fault) steps steps' = steps' ≡ steps

-- a session in this state that has no table of all pairs of vertices, which takes the most steps
abbrev pub unprepared : State → Seen
unprepared state = record { state = state; prepared = false }
