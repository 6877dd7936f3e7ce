-- How far a script is answered. This project's own.
use Rattle.std.specs.Prelude.{◌≡◌, ◌≢◌, ◌==◌, ℕ, ◌+◌, false, if◌then◌else◌, List, ◌++◌, length, Result}
use Rattle.geo_text.specs.Reading.{TakesRecord, script_version}
use Rattle.geo_text.specs.Records.{Unread}
use Rattle.geo_text.specs.declared.command.Bad.{Bad}
use Rattle.geo_text.specs.declared.command.Command.{Command}
use Rattle.geo_text.specs.declared.version.Version.{Version}
use Rattle.geo_session.specs.Answer.{AppendsReadingAnswer}
use Rattle.geo_session.specs.State.{State}
use Rattle.geo_session.specs.Output.{AreAnswers}

-- the next record was taken from a script, which reads on
pub record TakesNext (before after : Unread) : Type 0 where
  pub reading : Result Command Bad
  pub taken : TakesRecord before after reading
  pub goes_on : after.failed ≡ false

-- the next record was taken from a script, and its answer appended to a text
pub record AnswersRecord (before after : Unread) (state state' : State) (out out' : List ℕ) : Type 0 where
  pub reading : Result Command Bad
  pub taken : TakesRecord before after reading
  pub answered : AppendsReadingAnswer state reading out out' state'

-- of which version a script is; its first record says it, where that is left
abbrev pub version_of_unread : Unread → Version
version_of_unread script = if script.next == 0 then script_version script.left else script.version

-- the first of the records that were left in a script are answered, from a state on, and the others are left still
pub record AnsweredSoFar (before after : Unread) (state state' : State) (text : List ℕ) : Type 0 where
  pub first : List (List (List ℕ))
  pub records : before.left ≡ first ++ after.left
  pub counted : after.next ≡ before.next + length first
  pub version : after.next ≢ 0 → after.version ≡ version_of_unread before
  pub answers : AreAnswers (version_of_unread before) before.next state first text state'
