-- One word more of a command line, where `--comb` is the only option.
use Rattle.std.proofs.Common.{◌≡◌, ◌||◌, refl, sym, ap, ap₂, subst, ◌∙◌, ℕ, zero, suc, Bool, true, false, cond, List, [], ◌∷◌, ◌++◌, length, codes, Option, Some, None, chars, slice_get, bytes_eq, arith}
use Rattle.std.proofs.lemmas.Slice.Eq.{bytes_eq-Decides}
use Rattle.clap.specs.Faults.{flag_word_fault, long_fault, react_fault, settle_fault, step_fault, turn_fault}
use Rattle.clap.specs.Kinds.{Kinds, or_else}
use Rattle.clap.specs.Lexer.{long_of, short_of}
use Rattle.clap.specs.Simple.{Shape, built, filled, with_index}
use Rattle.clap.specs.Walk.{Held, Row, Rule, Step, Text, Waiting, Walk, after_flag, after_step, arg_by_id, bundle_met, bundle_step, idle, long_met, long_or_other, option, option_word, plain, plain_word, positional, reacted, settled, short_or_plain, walked}
use Rattle.geo_words.specs.CommandLine.{comb_command, comb_option}
use Rattle.geo_words.proofs.Dashes.{long_back, spelled}

-- the command and its option as they are built
abbrev pub top : Shape
top = (built comb_command).top

abbrev pub comb : Rule
comb = with_index 1 (filled comb_option)

abbrev pub options : List Rule
options = comb ∷ []

-- where the walk stands between two words
abbrev pub held : List Row → Option (Text × List Text) → Held
held rows pending = record { rows = rows; pending = pending; skip = 0 }

abbrev pub at : Held → Waiting → Walk
at h waiting = record { held = h; waiting = waiting; position = 1; is_trailing = false; stopped = None }

-- the word is the value of the option that waits
abbrev pub TakesValue : Held → Waiting → Text → Walk → Type 0
TakesValue h idle word after = ⊥
TakesValue h (option id) word after = after ≡ at (option_word (arg_by_id options id) id word h).0 (option_word (arg_by_id options id) id word h).1
TakesValue h positional word after = ⊥

-- what a word was that has no fault
pub data Turn (h : Held) (waiting : Waiting) (word : Text) (after : Walk) : Type 0 where
  joined : (text : Text) → word ≡ codes "--comb=" ++ text → react_fault options false comb (text ∷ []) h ≡ [] → after ≡ at (reacted options comb (text ∷ []) h) idle → Turn h waiting word after
  named : word ≡ codes "--comb" → settle_fault options false h ≡ [] → after ≡ at (record (settled options h) { pending = Some (codes "comb", []) }) (option (codes "comb")) → Turn h waiting word after
  valued : TakesValue h waiting word after → Turn h waiting word after

pub no_fault_is : {X : Type 0} {x : X} {xs : List X} → x ∷ xs ≡ [] → ⊥
no_fault_is {x = x} {xs = xs} e = let bad : length (x ∷ xs) ≡ 0 = ap length e in omega arith

-- neither the first nor the second has a fault
pub both_pass : (first second : Kinds) → or_else first second ≡ [] → (first ≡ []) × (second ≡ [])
both_pass [] second h = (refl, h)
both_pass (k ∷ ks) second h = absurd (no_fault_is h)

-- the flags of a word with one hyphen are none of the command's, so it goes on as a word that is no flag
not_flags : (h : Held) (waiting : Waiting) (word : Text) (k : ℕ) (flags : Text)
    → after_flag options waiting word (bundle_met options k flags 0 plain h).0 (bundle_met options k flags 0 plain h).1 ≡ plain_word options waiting word h
unfolding bundle_met
not_flags h waiting word zero flags = refl
not_flags h waiting word (suc k) flags = go (slice_get (chars flags) 0)
  where
    go : (x : Option ℕ)
        → after_flag options waiting word (bundle_step options x flags 0 plain h (bundle_met options k)).0 (bundle_step options x flags 0 plain h (bundle_met options k)).1 ≡ plain_word options waiting word h
    go None = refl
    go (Some x) = refl

module _ (rows : List Row) (pending : Option (Text × List Text)) (word : Text) where
  abbrev before : Held
  before = held rows pending

  -- what the word was has no fault, and the walk goes on after it
  abbrev IsTurn : Waiting → Held × Step → Type 0
  IsTurn waiting met = Turn (held rows pending) waiting word (after_step options word (at (held rows pending) waiting) met.0 met.1)

  -- a word that is no flag
  no_flag : (waiting : Waiting) → step_fault top 1 (plain_word options waiting word (held rows pending)).0 (plain_word options waiting word (held rows pending)).1 ≡ []
      → IsTurn waiting (plain_word options waiting word (held rows pending))
  no_flag idle f = absurd (no_fault_is f)
  no_flag positional f = absurd (no_fault_is f)
  no_flag (option id) f = valued refl

  no_long : (waiting : Waiting) (flags : Option Text) (first : Kinds)
      → or_else first (step_fault top 1 (short_or_plain options waiting word flags (held rows pending)).0 (short_or_plain options waiting word flags (held rows pending)).1) ≡ []
      → IsTurn waiting (short_or_plain options waiting word flags (held rows pending))
  no_long waiting None first f = no_flag waiting (both_pass first _ f).1
  no_long waiting (Some flags) first f =
      let same = not_flags (held rows pending) waiting word (length flags) flags in
      subst (IsTurn waiting) (sym same) (no_flag waiting (subst (λ (met : Held × Step). step_fault top 1 met.0 met.1 ≡ []) same (both_pass first _ f).1))

  -- a word that begins with two hyphens, by whether its name is the option's
  module _ (waiting : Waiting) (name : Text) (value : Option Text) (is_long : long_of word ≡ Some (name, value)) where
    abbrev rule_if : Bool → Option Rule
    rule_if same = cond (same || false) (Some comb) None

    abbrev met_if : Bool → Option Text → Held × Step
    met_if same v = after_flag options waiting word (long_met options (rule_if same) v (held rows pending)).0 (long_met options (rule_if same) v (held rows pending)).1

    spelled_so : (v : Option Text) → value ≡ v → bytes_eq (codes "comb") name ≡ true → word ≡ 45 ∷ 45 ∷ spelled (codes "comb", v)
    spelled_so v e same =
        long_back word (name, value) is_long ∙ ap₂ (λ n u. 45 ∷ 45 ∷ spelled (n, u)) (sym ((bytes_eq-Decides (codes "comb") name).0 same)) e

    long : (same : Bool) → bytes_eq (codes "comb") name ≡ same → (v : Option Text) → value ≡ v
        → or_else (long_fault options false (rule_if same) v (held rows pending)) (step_fault top 1 (met_if same v).0 (met_if same v).1) ≡ []
        → IsTurn waiting (met_if same v)
    long false is v e f = absurd (no_fault_is f)
    long true is None e f = named (spelled_so None e is) (both_pass (settle_fault options false (held rows pending)) _ f).0 refl
    long true is (Some text) e f = joined text (spelled_so (Some text) e is) (both_pass (react_fault options false comb (text ∷ []) (held rows pending)) _ f).0 refl

  by_long : (waiting : Waiting) (o : Option (Text × Option Text)) → long_of word ≡ o
      → or_else (flag_word_fault options false o word (held rows pending)) (step_fault top 1 (long_or_other options waiting word o (held rows pending)).0 (long_or_other options waiting word o (held rows pending)).1) ≡ []
      → IsTurn waiting (long_or_other options waiting word o (held rows pending))
  by_long waiting None is f = no_long waiting (short_of word) _ f
  by_long waiting (Some p) is f = long waiting p.0 p.1 is (bytes_eq (codes "comb") p.0) refl p.1 refl f

  -- a word that is not `--`
  pub turn : (waiting : Waiting) → bytes_eq word (codes "--") ≡ false → turn_fault top [] (at (held rows pending) waiting) word ≡ []
      → Turn (held rows pending) waiting word (walked options [] (at (held rows pending) waiting) word)
  unfolding walked
  turn idle other f = rw other (by_long idle (long_of word) refl (rw other at f))
  turn (option id) other f = rw other (by_long (option id) (long_of word) refl (rw other at f))
  turn positional other f = rw other (by_long positional (long_of word) refl (rw other at f))
