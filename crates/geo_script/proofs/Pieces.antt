-- The records of a piece are answered one by one.
use Rattle.std.proofs.Common.{◌≡◌, ◌||◌, ◌==◌, ◌∙◌, Bool, true, false, not, if◌then◌else◌, ℕ, List, [], ◌∷◌, ◌++◌, length, append-nil, ap, arith, refl, subst, sym}
use Rattle.std.proofs.lemmas.Bool.{ne_eqb, or_parts}
use Rattle.geo_text.proofs.Joined.{no_later_records, no_records}
use Rattle.geo_text.specs.Reading.{script_version}
use Rattle.geo_text.specs.Records.{Unread, records_of}
use Rattle.geo_text.specs.declared.version.Version.{Version}
use Rattle.geo_session.specs.State.{State, first_state}
use Rattle.geo_session.specs.Output.{AreAnswers, AreFirstAnswers, IsOutput}
use Rattle.geo_script.proofs.NextRecord.{first_and_one, no_first, none_answered, one_more}
use Rattle.geo_script.specs.Answered.{AnswersRecord, version_of_unread}
use Rattle.geo_script.specs.Dialog.{AnswersPiece, AnswersRecords, IsTalkOf, Talk, first_talk, is_some, records_in, version_with}
use Rattle.geo_script.specs.Progress.{PieceSoFar, part_of}

-- a record was answered
some_push : (first : List (List (List ℕ))) (fields : List (List ℕ)) → is_some (first ++ fields ∷ []) ≡ true
some_push [] fields = refl
some_push (earlier ∷ first) fields = refl

or_true : (b : Bool) → true ≡ (b || true)
or_true true = refl
or_true false = refl

or_false : (b : Bool) → b ≡ (b || false)
or_false true = refl
or_false false = refl

-- a piece of no bytes has no records
no_records_in : (talk : Talk) → records_in talk [] ≡ []
no_records_in talk = by_begun talk.begun
  where
    by_begun : (begun : Bool) → records_in (record talk { begun = begun }) [] ≡ []
    by_begun true = no_later_records
    by_begun false = no_records

-- the version is that of the part of the script that the piece is
version_is : (talk : Talk) (piece : List ℕ) → version_of_unread (part_of talk piece) ≡ version_with talk (records_in talk piece)
version_is talk piece = by_known talk.known talk.state.version (script_version (records_in talk piece))
  where
    by_known : (known : Bool) (version asked : Version) → (if (if known then 1 else 0) == 0 then asked else version) ≡ (if known then version else asked)
    by_known true version asked = refl
    by_known false version asked = refl

-- a piece that is not empty has a byte
pub has_byte : (piece : List ℕ) (begun empty : Bool) → empty ≡ (length piece == 0) → (begun || not empty) ≡ (begun || is_some piece)
has_byte [] begun empty is = rw is refl
has_byte (c ∷ piece) begun empty is = rw (is, ne_eqb (length (c ∷ piece)) 0 (λ e. omega (arith, e))) refl

-- where none of some first records is answered, the state is as before
unmoved : (version : Version) (k : ℕ) (before after : State) (first : List (List (List ℕ))) (text : List ℕ) → is_some first ≡ false
    → AreAnswers version k before first text after → after ≡ before
unmoved version k before after [] text none told = told.1
unmoved version k before after (fields ∷ first) text none told = cc none

module _ (before : Talk) (piece : List ℕ) (script : Unread) (begun known : Bool) (state : State) (text : List ℕ)
    (done : PieceSoFar before piece script begun known state text) where
  -- one record more
  pub goes_on : (script' : Unread) (after : State) (text' : List ℕ) → AnswersRecord script script' state after text text'
      → PieceSoFar before piece script' true true after text'
  goes_on script' after text' one =
      let start = part_of before piece in
      let first = first_and_one start script script' before.state state after text text text' done.answered one in
      rw one.answered.appended (record {
        answered = one_more start script script' before.state state after text text text' done.answered one;
        begun = rw (first, some_push done.answered.first one.taken.fields) (or_true before.begun);
        known = rw (first, some_push done.answered.first one.taken.fields) (or_true before.known);
      })

  -- before the first byte no version is known, and before the first record nothing is kept
  pub still_sound : (before.begun ≡ false → before.known ≡ false) × (before.known ≡ false → before.state ≡ first_state) → (state' : State) (begun' : Bool)
      → state' ≡ state → (begun' ≡ false → begun ≡ false) → (begun' ≡ false → known ≡ false) × (known ≡ false → state' ≡ first_state)
  still_sound sound state' begun' same less =
      let first = done.answered.first in (
        (λ e.
            let none = or_parts before.begun (is_some first) (sym done.begun ∙ less e) in
            rw (done.known, sound.0 none.0, none.1) refl),
        (λ e.
            let none = or_parts before.known (is_some first) (sym done.known ∙ e) in
            same ∙ unmoved (version_of_unread (part_of before piece)) (part_of before piece).next before.state state first text none.1 done.answered.answers ∙ sound.1 none.0),
      )

  first_answered : (begun' : Bool) → AnswersRecords (version_with before (records_in before piece)) before done.answered.first
      (record { begun = begun'; known = known; state = state; text = text })
  first_answered begun' = record { answers = rw (sym (version_is before piece)) done.answered.answers; known = done.known }

  -- all of them are
  module _ (none : script.left ≡ []) where
    all_records : records_in before piece ≡ done.answered.first
    all_records = done.answered.records ∙ ap (λ left. done.answered.first ++ left) none ∙ append-nil done.answered.first

    begun_after : (begun || is_some piece) ≡ (before.begun || is_some piece)
    begun_after = by_piece piece done.answered.first all_records done.begun
      where
        by_piece : (bytes : List ℕ) (first : List (List (List ℕ))) → records_in before bytes ≡ first → begun ≡ (before.begun || is_some first)
            → (begun || is_some bytes) ≡ (before.begun || is_some bytes)
        by_piece [] first is so =
            let empty : first ≡ [] = sym is ∙ no_records_in before in
            rw (so, empty) (sym (or_false (before.begun || false)))
        by_piece (c ∷ bytes) first is so = sym (or_true begun) ∙ or_true before.begun

    pub all_answered : (state' : State) (text' : List ℕ) (begun' : Bool) → state' ≡ state → text' ≡ text → begun' ≡ (begun || is_some piece)
        → AnswersPiece before piece (record { begun = begun'; known = known; state = state'; text = text' })
    all_answered state' text' begun' same_state same_text same_begun = rw (same_state, same_text) (record {
      answered = subst (λ rows. AnswersRecords (version_with before (records_in before piece)) before rows _) (sym all_records) (first_answered begun');
      begun = same_begun ∙ begun_after;
    })

-- before the first record
none_yet : (talk : Talk) (piece : List ℕ) → PieceSoFar talk piece (part_of talk piece) talk.begun talk.known talk.state []
none_yet talk piece = record {
  answered = none_answered (part_of talk piece) talk.state;
  begun = rw (no_first (part_of talk piece) talk.state) (or_false talk.begun);
  known = rw (no_first (part_of talk piece) talk.state) (or_false talk.known);
}

pub begins : (talk : Talk) (piece : List ℕ) (script : Unread) (begun known : Bool) (state : State) (text : List ℕ) → script ≡ part_of talk piece
    → begun ≡ talk.begun → known ≡ talk.known → state ≡ talk.state → text ≡ [] → PieceSoFar talk piece script begun known state text
begins talk piece script begun known state text is same_begun same_known same_state empty =
    rw (is, same_begun, same_known, same_state, empty) (none_yet talk piece)

-- the answers to the first piece are those to the script that it is
pub first_answers : (before after : Talk) (piece : List ℕ) → before.begun ≡ false → before.known ≡ false → before.state ≡ first_state
    → AnswersPiece before piece after → AreFirstAnswers piece (records_of piece) after.text after.state
first_answers before after piece none unknown at_first answered = rw (none, unknown, at_first) at answered.answered.answers

pub first_output : (before after : Talk) (piece : List ℕ) → (before.begun ≡ false → before.known ≡ false) × (before.known ≡ false → before.state ≡ first_state)
    → AnswersPiece before piece after → before.begun ≡ false → IsOutput piece after.text
first_output before after piece sound answered none =
    let unknown = sound.0 none in
    record { state = after.state; answers = first_answers before after piece none unknown (sound.1 unknown) answered }

-- before the first piece
pub talk_of_nothing : (talk : Talk) → talk ≡ first_talk → IsTalkOf [] [] talk
talk_of_nothing talk is = rw is (record {
  output = record { state = first_state; answers = rw no_records (refl, refl) };
  state = refl;
  begun = refl;
  known = rw no_records refl;
})
