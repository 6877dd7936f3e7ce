-- What is written for a command, and the state that it leaves. This project's own.
use Rattle.std.specs.Prelude.{◌≡◌, ℕ, ◌++◌, List, Result, Ok, Err}
use Rattle.geo_text.specs.Texts.{bad_text}
use Rattle.geo_text.specs.declared.command.Bad.{Bad}
use Rattle.geo_text.specs.declared.command.Command.{Command}
use Rattle.geo_session.specs.Reply.{IsReply, state_after}
use Rattle.geo_reply.specs.ReplyText.{reply_text}
use Rattle.geo_session.specs.State.{State}
use Rattle.geo_reply.specs.declared.reply.Reply.{Reply}

-- the text is the lines of the command's reply, and the state is the one after it
pub record IsAnswer (before : State) (asked : Command) (text : List ℕ) (after : State) : Type 0 where
  pub answered : Reply
  pub is_reply : IsReply before asked answered
  pub told : text ≡ reply_text answered
  pub left : after ≡ state_after before asked answered

-- the same of a record that is read as a command or as a refusal; a refused record gives its line and keeps the state
abbrev pub IsReadingAnswer : State → Result Command Bad → List ℕ → State → Type 0
IsReadingAnswer before (Ok asked) text after = IsAnswer before asked text after
IsReadingAnswer before (Err fault) text after = (text ≡ bad_text fault) × (after ≡ before)

-- a command's answer was appended to a text
pub record AppendsAnswer (before : State) (asked : Command) (out out' : List ℕ) (after : State) : Type 0 where
  pub text : List ℕ
  pub answer : IsAnswer before asked text after
  pub appended : out' ≡ out ++ text

-- the answer to a record that was read was appended to a text
pub record AppendsReadingAnswer (before : State) (reading : Result Command Bad) (out out' : List ℕ) (after : State) : Type 0 where
  pub text : List ℕ
  pub answer : IsReadingAnswer before reading text after
  pub appended : out' ≡ out ++ text
