-- What a call gives back for a whole script. This project's own.
use Rattle.std.specs.Prelude.{◌≡◌, ℕ, List, ◌++◌}
use Rattle.geo_text.specs.Records.{records_of}
use Rattle.geo_session.specs.State.{State}
use Rattle.geo_session.specs.Output.{AreFirstAnswers, IsOutput}
use Rattle.geo_c.specs.Filled.{IsFilledBy}

-- the buffer is filled by the whole output of a script
pub record GivesOutput (script : List ℕ) (needed : ℕ) (before after : List ℕ) : Type 0 where
  pub text : List ℕ
  pub output : IsOutput script text
  pub filled : IsFilledBy text needed before after

-- the buffer is filled by the answers to some first records of a script
pub record GivesFirst (script : List ℕ) (needed : ℕ) (before after : List ℕ) : Type 0 where
  pub first : List (List (List ℕ))
  pub rest : List (List (List ℕ))
  pub records : records_of script ≡ first ++ rest
  pub text : List ℕ
  pub state : State
  pub answers : AreFirstAnswers script first text state
  pub filled : IsFilledBy text needed before after
