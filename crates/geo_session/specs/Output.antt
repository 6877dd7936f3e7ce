-- What is written for a whole script. This project's own.
use Rattle.std.specs.Prelude.{◌≡◌, ℕ, ◌+◌, List, [], ◌∷◌, ◌++◌, Result}
use Rattle.geo_text.specs.Reading.{reading_of, script_version}
use Rattle.geo_text.specs.Records.{records_of}
use Rattle.geo_text.specs.declared.command.Bad.{Bad}
use Rattle.geo_text.specs.declared.command.Command.{Command}
use Rattle.geo_text.specs.declared.version.Version.{Version}
use Rattle.geo_session.specs.Answer.{IsReadingAnswer}
use Rattle.geo_session.specs.State.{State, first_state}

-- the answer to the first record, and then the rest
pub record AnswersFirst (Rest : State → List ℕ → Type 0) (before : State) (reading : Result Command Bad) (text : List ℕ) : Type 0 where
  pub first : List ℕ
  pub rest : List ℕ
  pub between : State
  pub answer : IsReadingAnswer before reading first between
  pub others : Rest between rest
  pub joined : text ≡ first ++ rest

-- the text is the answers to these records of a script of a version, from record k on, one after the other, and leaves the state after
abbrev pub AreAnswers : Version → ℕ → State → List (List (List ℕ)) → List ℕ → State → Type 0
AreAnswers version k before [] text after = (text ≡ []) × (after ≡ before)
AreAnswers version k before (fields ∷ records) text after =
    AnswersFirst (λ between rest. AreAnswers version (k + 1) between records rest after) before (reading_of version k fields) text

-- the text is the answers to the first records of a script, and leaves the state after
abbrev pub AreFirstAnswers : List ℕ → List (List (List ℕ)) → List ℕ → State → Type 0
AreFirstAnswers bytes records text after = AreAnswers (script_version (records_of bytes)) 0 first_state records text after

-- the text is the whole output of a script
pub record IsOutput (bytes text : List ℕ) : Type 0 where
  pub state : State
  pub answers : AreFirstAnswers bytes (records_of bytes) text state
