-- What a run without words leaves. `left` and `left'` are the bytes that the source has left at entry and at exit, and
-- `taken` and `taken'` those that the sink has taken, where they tell them. This project's own.
use Rattle.std.specs.Io.KnownBytes.{Appends, Consumes, IsAtEnd}
use Rattle.std.specs.Prelude.{◌≡◌, ℕ, ◌≤◌, List, [], ◌∷◌, ◌++◌, length, take, Option}
use Rattle.plane.specs.declared.limits.TheConstants.{MAX_SCRIPT}
use Rattle.geo_text.specs.Reading.{reading_of, script_version}
use Rattle.geo_text.specs.Records.{records_of}
use Rattle.geo_session.specs.Answer.{IsReadingAnswer}
use Rattle.geo_session.specs.State.{State}
use Rattle.geo_session.specs.Output.{AreFirstAnswers, IsOutput}

-- these bytes are the whole script, and it is not too long
pub record ReadsScript (left left' : Option (List ℕ)) (bytes : List ℕ) : Type 0 where
  pub read : Consumes left left' bytes
  pub end : IsAtEnd left'
  pub within : length bytes ≤ MAX_SCRIPT

-- the sink took the whole output of the bytes
pub record WritesOutput (bytes : List ℕ) (taken taken' : Option (List ℕ)) : Type 0 where
  pub output : List ℕ
  pub defined : IsOutput bytes output
  pub written : Appends taken taken' output

-- the sink took the answers to some first records, and nothing else
pub record WritesFirst (bytes : List ℕ) (taken taken' : Option (List ℕ)) : Type 0 where
  pub first : List (List (List ℕ))
  pub rest : List (List (List ℕ))
  pub records : records_of bytes ≡ first ++ rest
  pub output : List ℕ
  pub state : State
  pub defined : AreFirstAnswers bytes first output state
  pub written : Appends taken taken' output

-- the sink took the answers to some first records, then the front of the answer to the next, and nothing else
pub record WritesFirstAndFront (bytes : List ℕ) (taken taken' : Option (List ℕ)) : Type 0 where
  pub first : List (List (List ℕ))
  pub next : List (List ℕ)
  pub rest : List (List (List ℕ))
  pub records : records_of bytes ≡ first ++ next ∷ rest
  pub output : List ℕ
  pub state : State
  pub defined : AreFirstAnswers bytes first output state
  pub answer : List ℕ
  pub after : State
  pub answered : IsReadingAnswer state (reading_of (script_version (records_of bytes)) (length first) next) answer after
  pub count : ℕ
  pub written : Appends taken taken' (output ++ take count answer)

-- the whole script was read, and then this holds of its bytes
pub record AfterReading (left left' : Option (List ℕ)) (Holds : List ℕ → Type 0) : Type 0 where
  pub bytes : List ℕ
  pub script : ReadsScript left left' bytes
  pub holds : Holds bytes

-- of a source that tells its bytes: all of them were read, and they are not too many for a script
pub record ReadsAll (bytes left' : List ℕ) : Type 0 where
  pub end : left' ≡ []
  pub within : length bytes ≤ MAX_SCRIPT
