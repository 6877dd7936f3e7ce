-- One record more of a script is answered.
use Rattle.std.proofs.Common.{◌≡◌, ◌≢◌, ◌+◌, ◌==◌, ℕ, zero, suc, if◌then◌else◌, List, [], ◌∷◌, ◌++◌, length, refl, sym, ap, subst, append_assoc, append-nil, ◌∙◌, arith}
use Rattle.std.proofs.lemmas.Bool.{ne_eqb}
use Rattle.std.proofs.lemmas.List.{length_push}
use Rattle.geo_text.specs.Reading.{asked_version, reading_of, script_version}
use Rattle.geo_text.specs.Records.{Unread}
use Rattle.geo_text.specs.declared.version.Version.{Version}
use Rattle.geo_session.specs.Answer.{IsReadingAnswer}
use Rattle.geo_session.specs.State.{State}
use Rattle.geo_session.specs.Output.{AreAnswers}
use Rattle.geo_script.specs.Answered.{AnsweredSoFar, AnswersRecord, version_of_unread}

-- the answer to one record more
answers_and_one : (version : Version) (k : ℕ) (before middle after : State) (records : List (List (List ℕ))) (fields : List (List ℕ)) (text answer : List ℕ)
    → AreAnswers version k before records text middle → (j : ℕ) → j ≡ k + length records → IsReadingAnswer middle (reading_of version j fields) answer after
    → AreAnswers version k before (records ++ fields ∷ []) (text ++ answer) after
answers_and_one version k before middle after [] fields text answer done j at next =
    let same : j ≡ k = omega (arith, at) in
    rw (done.0) (record {
      first = answer;
      rest = [];
      between = after;
      answer = subst (λ (i : ℕ). IsReadingAnswer before (reading_of version i fields) answer after) same (rw (sym done.1) next);
      others = (refl, refl);
      joined = sym (append-nil answer);
    })
answers_and_one version k before middle after (earlier ∷ records) fields text answer done j at next = record {
  first = done.first;
  rest = done.rest ++ answer;
  between = done.between;
  answer = done.answer;
  others = answers_and_one version (k + 1) done.between middle after records fields done.rest answer done.others j (omega (arith, at)) next;
  joined = rw done.joined (append_assoc done.first done.rest answer);
}

-- a record that is not the script's first one changes no version
later : (next : ℕ) (asked version version' : Version) → next ≢ 0 → version' ≡ (if next == 0 then asked else version) → version' ≡ version
later next asked version version' some is = rw (ne_eqb next 0 some) at is

-- the script's first record says of which version it is, and the later ones keep that
version_after : (first left : List (List (List ℕ))) (fields : List (List ℕ)) (start next : ℕ) (was version version' : Version) → next ≡ start + length first
    → (next ≢ 0 → version ≡ (if start == 0 then script_version (first ++ fields ∷ left) else was)) → version' ≡ (if next == 0 then asked_version fields else version)
    → version' ≡ (if start == 0 then script_version (first ++ fields ∷ left) else was)
version_after [] left fields zero next was version version' counted same is = is ∙ rw counted refl
version_after [] left fields (suc start) next was version version' counted same is =
    let some : next ≢ 0 = λ e. omega (arith, counted, e) in
    later next (asked_version fields) version version' some is ∙ same some
version_after (earlier ∷ first) left fields start next was version version' counted same is =
    let some : next ≢ 0 = λ e. omega (arith, counted, e) in
    later next (asked_version fields) version version' some is ∙ same some

module _ (start script script' : Unread) (before state after : State) (text out out' : List ℕ) (done : AnsweredSoFar start script before state text)
    (one : AnswersRecord script script' state after out out') where
  -- the records from the start on: those before, this one, and those that are left
  pub all_records : start.left ≡ done.first ++ one.taken.fields ∷ script'.left
  all_records = done.records ∙ ap (λ l. done.first ++ l) one.taken.first

  version : script'.version ≡ version_of_unread start
  version = rw all_records (version_after done.first script'.left one.taken.fields start.next script.next start.version script.version script'.version done.counted
      (rw all_records at done.version) one.taken.version)

  -- the answer is that to the record with its number
  pub answer_is : IsReadingAnswer state (reading_of (version_of_unread start) (start.next + length done.first) one.taken.fields) one.answered.text after
  answer_is = rw (sym version, sym done.counted, sym one.taken.reads) one.answered.answer

  -- so one record more is answered
  pub one_more : AnsweredSoFar start script' before after (text ++ one.answered.text)
  one_more = record {
    first = done.first ++ one.taken.fields ∷ [];
    records = all_records ∙ sym (append_assoc done.first (one.taken.fields ∷ []) script'.left);
    counted = omega (arith, one.taken.counted, done.counted, length_push done.first one.taken.fields);
    version = λ some. version;
    answers = answers_and_one (version_of_unread start) start.next before state after done.first one.taken.fields text one.answered.text done.answers
        (start.next + length done.first) refl answer_is;
  }

  -- it is one more behind those before
  pub first_and_one : one_more.first ≡ done.first ++ one.taken.fields ∷ []
  unfolding one_more
  first_and_one = refl

-- at the start none is answered
pub none_answered : (start : Unread) (state : State) → AnsweredSoFar start start state state []
none_answered start state = record {
  first = [];
  records = refl;
  counted = omega arith;
  version = λ some. rw (ne_eqb start.next 0 some) refl;
  answers = (refl, refl);
}

pub no_first : (start : Unread) (state : State) → (none_answered start state).first ≡ []
unfolding none_answered
no_first start state = refl
