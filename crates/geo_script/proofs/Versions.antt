-- The answers to a script keep its version.
use Rattle.std.proofs.Common.{◌≡◌, ◌≢◌, ◌∙◌, ◌+◌, ℕ, List, [], ◌∷◌, Result, Ok, Err, ap, arith, refl}
use Rattle.std.specs.Prelude.{IfOk}
use Rattle.plane.specs.Point.{Point}
use Rattle.geo_text.proofs.Readings.{command_is_plain, later_is_plain}
use Rattle.geo_text.specs.Limits.{limits_of}
use Rattle.geo_text.specs.Reading.{command_of, reading_of}
use Rattle.geo_text.specs.declared.command.Bad.{Bad}
use Rattle.geo_text.specs.declared.command.Command.{Command}
use Rattle.geo_text.specs.declared.command.Command.TheVariants as command
use Rattle.geo_text.specs.declared.version.Version.{Version}
use Rattle.geo_text.specs.declared.version.Version.TheVariants as version
use Rattle.geo_session.specs.Answer.{IsAnswer, IsReadingAnswer}
use Rattle.geo_session.specs.State.{State, first_state}
use Rattle.geo_session.specs.Output.{AreAnswers}
use Rattle.geo_session.specs.Reply.{state_after}
use Rattle.geo_reply.specs.declared.reply.Reply.{Reply}
use Rattle.geo_reply.specs.declared.reply.Reply.TheVariants as reply

-- whatever is replied to any other command than `Two`, the version is kept
after_polygon : (before : State) (ring : List Point) (answered : Reply) → (state_after before (command.Polygon ring) answered).version ≡ before.version
after_polygon before ring (reply.Number asked count) = refl
after_polygon before ring _ = refl

after_tree : (before : State) (s : Point) (answered : Reply) → (state_after before (command.Tree s) answered).version ≡ before.version
after_tree before s (reply.Tree befores) = refl
after_tree before s _ = refl

after_plain : (before : State) (asked : Command) (answered : Reply) → asked ≢ command.Two → (state_after before asked answered).version ≡ before.version
after_plain before command.Two answered plain = absurd (plain refl)
after_plain before (command.Polygon ring) answered plain = after_polygon before ring answered
after_plain before (command.Tree s) answered plain = after_tree before s answered
after_plain before _ answered plain = refl

plain_keeps : (before : State) (asked : Command) (text : List ℕ) (after : State) → asked ≢ command.Two → IsAnswer before asked text after → after.version ≡ before.version
plain_keeps before asked text after plain told = ap (λ (s : State). s.version) told.left ∙ after_plain before asked told.answered plain

record_keeps : (before : State) (reading : Result Command Bad) (text : List ℕ) (after : State) → IfOk reading (λ made. made ≢ command.Two) → IsReadingAnswer before reading text after
    → after.version ≡ before.version
record_keeps before (Ok asked) text after plain told = plain_keeps before asked text after plain told
record_keeps before (Err fault) text after plain told = ap (λ (s : State). s.version) told.1

-- no record but the first one asks for a version, so all of them keep it
later_keep : (version : Version) (k : ℕ) (before after : State) (records : List (List (List ℕ))) (text : List ℕ) → k ≢ 0 → AreAnswers version k before records text after
    → after.version ≡ before.version
later_keep version k before after [] text some told = ap (λ (s : State). s.version) told.1
later_keep version k before after (fields ∷ records) text some told =
    later_keep version (k + 1) told.between after records told.rest (λ e. omega (arith, e)) told.others
    ∙ record_keeps before (reading_of version k fields) told.first told.between (later_is_plain version k fields some) told.answer

-- and the first one says it
first_says : (version : Version) (fields : List (List ℕ)) (text : List ℕ) (after : State) → IsReadingAnswer first_state (reading_of version 0 fields) text after
    → after.version ≡ version
first_says version.Two fields text after told = ap (λ (s : State). s.version) told.left
first_says version.One fields text after told = record_keeps first_state (command_of (limits_of version.One) fields) text after (command_is_plain (limits_of version.One) fields) told

pub version_kept : (version : Version) (after : State) (fields : List (List ℕ)) (records : List (List (List ℕ))) (text : List ℕ)
    → AreAnswers version 0 first_state (fields ∷ records) text after → after.version ≡ version
version_kept version after fields records text told =
    later_keep version 1 told.between after records told.rest (λ e. omega (arith, e)) told.others ∙ first_says version fields told.first told.between told.answer
