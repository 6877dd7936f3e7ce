-- How far a run has come. No public clause cites this module.
use Rattle.std.specs.Io.KnownBytes.{Appends}
use Rattle.std.specs.Prelude.{◌≡◌, false, ℕ, List, [], Option}
use Rattle.geo_text.specs.Records.{Unread, records_of}
use Rattle.geo_text.specs.declared.version.Version.TheVariants as version
use Rattle.geo_session.specs.State.{State, first_state}
use Rattle.geo_script.specs.Answered.{AnsweredSoFar}

-- a script before its first record
abbrev pub whole_script : List ℕ → Unread
whole_script bytes = record { left = records_of bytes; next = 0; version = version.One; failed = false }

-- the first records are answered, their answers are written, and no fault has come
pub record WrittenSoFar (bytes : List ℕ) (script : Unread) (state : State) (taken taken' : Option (List ℕ)) (faults faults' : ℕ) (out : List ℕ) : Type 0 where
  pub output : List ℕ
  pub answered : AnsweredSoFar (whole_script bytes) script first_state state output
  pub written : Appends taken taken' output
  pub no_fault : faults' ≡ faults
  pub all_written : out ≡ []
