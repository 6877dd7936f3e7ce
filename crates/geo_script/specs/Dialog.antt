-- A script that is handed in piece by piece. This project's own.
use Rattle.std.specs.Prelude.{◌≡◌, ◌||◌, Bool, true, false, if◌then◌else◌, ℕ, List, [], ◌∷◌, ◌++◌}
use Rattle.geo_text.specs.Reading.{script_version}
use Rattle.geo_text.specs.Records.{later_records_of, records_of}
use Rattle.geo_text.specs.declared.version.Version.{Version}
use Rattle.geo_session.specs.State.{State, first_state}
use Rattle.geo_session.specs.Output.{AreAnswers, IsOutput}

-- whether a piece had a byte, whether one had a record, which says the version, the state, and the answers to the last piece
pub record Talk : Type 0 where
  pub begun : Bool
  pub known : Bool
  pub state : State
  pub text : List ℕ

-- at first none had
abbrev pub first_talk : Talk
first_talk = record { begun = false; known = false; state = first_state; text = [] }

-- there is an element
abbrev pub is_some : {T : Type 0} → List T → Bool
is_some [] = false
is_some (first ∷ rest) = true

-- the records of the next piece; a byte order mark is dropped at the front of the first piece that has a byte, and text in the others
abbrev pub records_in : Talk → List ℕ → List (List (List ℕ))
records_in talk piece = if talk.begun then later_records_of piece else records_of piece

-- of which version the script is with these records of the next piece; its first record says it
abbrev pub version_with : Talk → List (List (List ℕ)) → Version
version_with talk records = if talk.known then talk.state.version else script_version records

-- the text is the answers to these records of the next piece, in a script of a version, and the state is that after them
pub record AnswersRecords (version : Version) (before : Talk) (records : List (List (List ℕ))) (after : Talk) : Type 0 where
  pub answers : AreAnswers version (if before.known then 1 else 0) before.state records after.text after.state
  pub known : after.known ≡ (before.known || is_some records)

-- so it is with all records of the piece
pub record AnswersPiece (before : Talk) (piece : List ℕ) (after : Talk) : Type 0 where
  pub answered : AnswersRecords (version_with before (records_in before piece)) before (records_in before piece) after
  pub begun : after.begun ≡ (before.begun || is_some piece)

-- so it is with some first records of the piece; where there are none, the piece is as if it had not been handed in
pub record AnswersSome (before : Talk) (piece : List ℕ) (after : Talk) : Type 0 where
  pub first : List (List (List ℕ))
  pub rest : List (List (List ℕ))
  pub records : records_in before piece ≡ first ++ rest
  pub answered : AnswersRecords (version_with before (records_in before piece)) before first after
  pub begun : after.begun ≡ (before.begun || is_some first)

-- the pieces so far are these bytes together, and the answers to them, one after the other, are the output of that script
pub record IsTalkOf (bytes text : List ℕ) (talk : Talk) : Type 0 where
  pub output : IsOutput bytes text
  pub state : talk.state ≡ output.state
  pub begun : talk.begun ≡ is_some bytes
  pub known : talk.known ≡ is_some (records_of bytes)
