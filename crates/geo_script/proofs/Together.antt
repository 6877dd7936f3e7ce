-- The answers to pieces are those to the script that they are together.
use Rattle.std.proofs.Common.{◌≡◌, ◌≢◌, ◌∙◌, ◌+◌, ◌||◌, ℕ, Bool, false, if◌then◌else◌, List, [], ◌∷◌, ◌++◌, append_assoc, arith, refl, subst, sym}
use Rattle.std.proofs.lemmas.Bool.{ne_eqb}
use Rattle.geo_text.proofs.Joined.{no_records, records_joined}
use Rattle.geo_text.specs.Reading.{asked_version, reading_of, script_version}
use Rattle.geo_text.specs.Records.{AreWhole, later_records_of, records_of}
use Rattle.geo_text.specs.declared.version.Version.{Version}
use Rattle.geo_text.specs.declared.version.Version.TheVariants as version
use Rattle.geo_session.specs.Answer.{IsReadingAnswer}
use Rattle.geo_session.specs.State.{State, first_state}
use Rattle.geo_session.specs.Output.{AreAnswers, AreFirstAnswers}
use Rattle.geo_script.proofs.Pieces.{first_answers}
use Rattle.geo_script.proofs.Versions.{version_kept}
use Rattle.geo_script.specs.Dialog.{AnswersPiece, IsTalkOf, Talk, is_some}

-- each record but the first one is read the same
same_reading : (version : Version) (j k : ℕ) (fields : List (List ℕ)) → j ≢ 0 → k ≢ 0 → reading_of version j fields ≡ reading_of version k fields
same_reading version.One j k fields some some' = refl
same_reading version.Two j k fields some some' = rw (ne_eqb j 0 some, ne_eqb k 0 some') refl

renumbered : (version : Version) (j k : ℕ) (before after : State) (records : List (List (List ℕ))) (text : List ℕ) → j ≢ 0 → k ≢ 0
    → AreAnswers version j before records text after → AreAnswers version k before records text after
renumbered version j k before after [] text some some' told = told
renumbered version j k before after (fields ∷ records) text some some' told = record {
  first = told.first;
  rest = told.rest;
  between = told.between;
  answer = subst (λ reading. IsReadingAnswer before reading told.first told.between) (same_reading version j k fields some some') told.answer;
  others = renumbered version (j + 1) (k + 1) told.between after records told.rest (λ e. omega (arith, e)) (λ e. omega (arith, e)) told.others;
  joined = told.joined;
}

-- answers to some records, and then to those after them
joined : (version : Version) (k : ℕ) (before between after : State) (records more : List (List (List ℕ))) (text text' : List ℕ)
    → AreAnswers version k before records text between → ((n : ℕ) → n ≢ 0 → AreAnswers version n between more text' after)
    → (records ≡ [] → AreAnswers version k between more text' after) → AreAnswers version k before (records ++ more) (text ++ text') after
joined version k before between after [] more text text' told later none =
    rw (told.0, sym told.1) (none refl)
joined version k before between after (fields ∷ records) more text text' told later none = record {
  first = told.first;
  rest = told.rest ++ text';
  between = told.between;
  answer = told.answer;
  others = joined version (k + 1) told.between between after records more told.rest text' told.others later (λ e. later (k + 1) (λ e. omega (arith, e)));
  joined = rw told.joined (append_assoc told.first told.rest text');
}

-- the answers to the first records of a script, and then those to the rest, by the version that is known by then
both_answered : (records more : List (List (List ℕ))) (text text' : List ℕ) (between after : State) (known : Bool) → known ≡ is_some records
    → AreAnswers (script_version records) 0 first_state records text between
    → AreAnswers (if known then between.version else script_version more) (if known then 1 else 0) between more text' after
    → AreAnswers (script_version (records ++ more)) 0 first_state (records ++ more) (text ++ text') after
both_answered [] more text text' between after known is told told' =
    let more_told = rw (is, told.1) at told' in
    rw told.0 more_told
both_answered (fields ∷ records) more text text' between after known is told told' =
    let same : between.version ≡ asked_version fields = version_kept (asked_version fields) between fields records text told in
    let in_version : AreAnswers between.version 1 between more text' after = rw is at told' in
    let later = subst (λ (version : Version). AreAnswers version 1 between more text' after) same in_version in
    joined (asked_version fields) 0 first_state between after (fields ∷ records) more text text' told
    (λ n some. renumbered (asked_version fields) 1 n between after more text' (λ e. omega (arith, e)) some later) (λ e. cc e)

some_append : (records more : List (List (List ℕ))) → (is_some records || is_some more) ≡ is_some (records ++ more)
some_append [] more = refl
some_append (fields ∷ records) more = refl

pub talk_together : (earlier text piece : List ℕ) (before after : Talk) → IsTalkOf earlier text before → AreWhole earlier → AnswersPiece before piece after
    → IsTalkOf (earlier ++ piece) (text ++ after.text) after
talk_together [] text piece before after talk whole answered =
    let none = rw no_records at talk.output.answers in
    let unknown : before.known ≡ false = rw no_records at talk.known in
    let first = first_answers before after piece talk.begun unknown (talk.state ∙ none.1) answered in
    record {
      output = record { state = after.state; answers = rw none.0 first };
      state = refl;
      begun = rw talk.begun at answered.begun;
      known = rw (unknown, talk.begun) at answered.answered.known;
    }
talk_together (c ∷ earlier) text piece before after talk whole answered =
    let records = records_joined c earlier piece whole in
    let first : AreFirstAnswers (c ∷ earlier) (records_of (c ∷ earlier)) text before.state = rw talk.state talk.output.answers in
    let later = rw talk.begun at answered.answered.answers in
    let known : after.known ≡ (is_some (records_of (c ∷ earlier)) || is_some (later_records_of piece)) = rw (talk.begun, talk.known) at answered.answered.known in
    record {
      output = record {
        state = after.state;
        answers = rw records (both_answered (records_of (c ∷ earlier)) (later_records_of piece) text after.text before.state after.state before.known talk.known first later);
      };
      state = refl;
      begun = rw talk.begun at answered.begun;
      known = rw records (known ∙ some_append (records_of (c ∷ earlier)) (later_records_of piece));
    }
