-- The answer to a command is a function of the state and the command, and the output one of the script.
use Rattle.std.proofs.Common.{◌≡◌, sym, ap, subst, ◌∙◌, ℕ, ◌+◌, List, [], ◌∷◌, ◌++◌, Result, Ok, Err}
use Rattle.geo_text.specs.Reading.{reading_of, script_version}
use Rattle.geo_text.specs.Records.{records_of}
use Rattle.geo_text.specs.declared.command.Bad.{Bad}
use Rattle.geo_text.specs.declared.command.Command.{Command}
use Rattle.geo_text.specs.declared.version.Version.{Version}
use Rattle.geo_session.specs.Answer.{IsReadingAnswer}
use Rattle.geo_session.specs.Laws.{OneAnswerLaw, OneOutputLaw, OneReplyLaw}
use Rattle.geo_session.specs.Output.{AreAnswers}
use Rattle.geo_session.specs.State.{State, first_state}

-- two answers to a record are one
pub one_reading : OneAnswerLaw → (before : State) (reading : Result Command Bad) (one other : List ℕ) (after after' : State)
    → IsReadingAnswer before reading one after → IsReadingAnswer before reading other after' → (one ≡ other) × (after ≡ after')
one_reading law before (Ok asked) one other after after' h g = law before asked one other after after' h g
one_reading law before (Err fault) one other after after' h g = (h.0 ∙ sym g.0, h.1 ∙ sym g.1)

module _ (one_reply : OneReplyLaw) where
  pub one_answer : OneAnswerLaw
  one_answer before asked one other after after' h g =
      let (text, state) = one_reply before asked h.answered g.answered h.is_reply g.is_reply in
      (h.told ∙ text ∙ sym g.told, h.left ∙ state ∙ sym g.left)

  one_answers : (version : Version) (k : ℕ) (before : State) (records : List (List (List ℕ))) (one other : List ℕ) (after after' : State)
      → AreAnswers version k before records one after → AreAnswers version k before records other after' → one ≡ other
  one_answers version k before [] one other after after' h g = h.0 ∙ sym g.0
  one_answers version k before (fields ∷ records) one other after after' h g =
      let (first, between) = one_reading one_answer before (reading_of version k fields) h.first g.first h.between g.between h.answer g.answer in
      let rest = one_answers version (k + 1) g.between records h.rest g.rest after after'
      (subst (λ s. AreAnswers version (k + 1) s records h.rest after) between h.others) g.others in
      h.joined ∙ ap (λ f. f ++ h.rest) first ∙ ap (λ r. g.first ++ r) rest ∙ sym g.joined

  pub one_output : OneOutputLaw
  one_output bytes one other h g =
      one_answers (script_version (records_of bytes)) 0 first_state (records_of bytes) one other h.state g.state h.answers g.answers
