-- What a record in numbers is answered, and the talk after it. This project's own.
use Rattle.std.specs.Prelude.{◌≡◌, true, ℕ, ℤ, List, Result, Ok, Err}
use Rattle.geo_text.specs.declared.command.Bad.{Bad}
use Rattle.geo_text.specs.declared.command.Command.{Command}
use Rattle.geo_session.specs.Reply.{IsReply, state_after}
use Rattle.geo_session.specs.State.{State}
use Rattle.geo_reply.specs.declared.reply.Reply.{Reply}
use Rattle.geo_reply.specs.declared.reply.Reply.TheVariants as reply
use Rattle.geo_script.specs.Dialog.{Talk}
use Rattle.geo_script.specs.InNumbers.{record_in_numbers}

-- the reply to a record that is read as a command or as a refusal
abbrev pub IsReadingReply : State → Result Command Bad → Reply → Type 0
IsReadingReply before (Ok asked) answered = IsReply before asked answered
IsReadingReply before (Err fault) answered = answered ≡ reply.Refused fault

-- the state after it; a refused record keeps the state
abbrev pub state_after_reading : State → Result Command Bad → Reply → State
state_after_reading before (Ok asked) answered = state_after before asked answered
state_after_reading before (Err fault) answered = before

-- the command that a record in numbers is in a talk, or why it is none
abbrev pub asked_in : Talk → ℕ → List ℤ → Result Command Bad
asked_in talk word numbers = record_in_numbers talk.state.version talk.known word numbers

-- the talk after a record in numbers and its reply: a record came, the state is the one after it, and the text is that of the last piece still
abbrev pub asked_talk : Talk → Result Command Bad → Reply → Talk
asked_talk before reading answered =
    record { begun = true; known = true; state = state_after_reading before.state reading answered; text = before.text }
