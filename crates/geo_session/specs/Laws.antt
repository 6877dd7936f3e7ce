-- That the answers are functions of the polygon and the command, as statements. This project's own.
use Rattle.std.specs.Prelude.{◌≡◌, ℕ, List}
use Rattle.geo_text.specs.declared.command.Command.{Command}
use Rattle.geo_session.specs.Answer.{IsAnswer}
use Rattle.geo_session.specs.Output.{IsOutput}
use Rattle.geo_session.specs.Reply.{IsReply, state_after}
use Rattle.geo_reply.specs.ReplyText.{reply_text}
use Rattle.geo_session.specs.State.{State}
use Rattle.geo_reply.specs.declared.reply.Reply.{Reply}

-- two replies to one command in one state have the same text, and leave the same state
abbrev pub OneReplyLaw : Type 0
OneReplyLaw = (before : State) (asked : Command) (one other : Reply) → IsReply before asked one → IsReply before asked other
    → (reply_text one ≡ reply_text other) × (state_after before asked one ≡ state_after before asked other)

-- so two answers to one command in one state are the same text, and leave the same state
abbrev pub OneAnswerLaw : Type 0
OneAnswerLaw = (before : State) (asked : Command) (one other : List ℕ) (after after' : State)
    → IsAnswer before asked one after → IsAnswer before asked other after' → (one ≡ other) × (after ≡ after')

-- so two outputs of one script are the same text
abbrev pub OneOutputLaw : Type 0
OneOutputLaw = (bytes one other : List ℕ) → IsOutput bytes one → IsOutput bytes other → one ≡ other
