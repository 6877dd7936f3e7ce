-- One turn of the loop over the records.
use Rattle.std.proofs.Common.{◌≡◌, ◌∙◌, ℕ, List, [], ◌++◌, length, Option, refl, sym, ap, append-nil, subst, zero-add}
use Rattle.std.proofs.KnownBytes.{Appends-nil, Appends-trans}
use Rattle.std.specs.Io.KnownBytes.{Appends}
use Rattle.geo_io.specs.Transfers.{AppendsFront}
use Rattle.geo_text.specs.Records.{Unread, records_of}
use Rattle.geo_session.specs.Output.{AreFirstAnswers}
use Rattle.geo_session.specs.State.{State, first_state}
use Rattle.geo_script.proofs.NextRecord.{all_records, answer_is, none_answered, one_more}
use Rattle.geo_script.specs.Answered.{AnswersRecord}
use Rattle.geo_run.specs.Progress.{WrittenSoFar, whole_script}
use Rattle.geo_run.specs.Run.{WritesFirstAndFront, WritesOutput}

module _ (bytes : List ℕ) (script script' : Unread) (state after : State) (taken now next : Option (List ℕ)) (faults faults' : ℕ) (out out' : List ℕ)
    (before : WrittenSoFar bytes script state taken now faults faults' out) (one : AnswersRecord script script' state after out out') where
  -- what stands in the buffer is the answer alone
  alone : out' ≡ one.answered.text
  alone = one.answered.appended ∙ ap (λ o. o ++ one.answered.text) before.all_written

  -- the answer was written whole
  pub written_whole : (faults'' : ℕ) → Appends now next out' → faults'' ≡ faults' → WrittenSoFar bytes script' after taken next faults faults'' []
  written_whole faults'' written same = record {
    output = before.output ++ one.answered.text;
    answered = one_more (whole_script bytes) script script' first_state state after before.output out out' before.answered one;
    written = Appends-trans taken now next before.output one.answered.text before.written (rw (sym alone) written);
    no_fault = same ∙ before.no_fault;
    all_written = refl;
  }

  -- the front of it was written
  pub written_front : AppendsFront now next out' → WritesFirstAndFront bytes taken next
  written_front front = record {
    first = before.answered.first;
    next = one.taken.fields;
    rest = script'.left;
    records = all_records (whole_script bytes) script script' first_state state after before.output out out' before.answered one;
    output = before.output;
    state = state;
    defined = before.answered.answers;
    answer = one.answered.text;
    after = after;
    answered = rw (zero-add (length before.answered.first)) at (answer_is (whole_script bytes) script script' first_state state after before.output out out' before.answered one);
    count = front.count;
    written = Appends-trans taken now next before.output _ before.written (rw (sym alone) front.front);
  }

-- before the first record
pub nothing_read : (bytes : List ℕ) (taken : Option (List ℕ)) (faults : ℕ) → WrittenSoFar bytes (whole_script bytes) first_state taken taken faults faults []
nothing_read bytes taken faults = record {
  output = [];
  answered = none_answered (whole_script bytes) first_state;
  written = Appends-nil taken;
  no_fault = refl;
  all_written = refl;
}

-- all records are answered
pub all_written : (bytes : List ℕ) (script : Unread) (state : State) (taken now : Option (List ℕ)) (faults faults' : ℕ) (out : List ℕ)
    → WrittenSoFar bytes script state taken now faults faults' out → script.left ≡ [] → WritesOutput bytes taken now
all_written bytes script state taken now faults faults' out done none =
    let first = done.answered.first in
    let all : first ≡ records_of bytes = sym (done.answered.records ∙ ap (λ l. first ++ l) none ∙ append-nil first) in
    record {
      output = done.output;
      defined = record { state = state; answers = subst (λ records. AreFirstAnswers bytes records done.output state) all done.answered.answers };
      written = done.written;
    }
