-- The parser takes the words that ask for something.
use Rattle.std.proofs.Common.{◌≡◌, refl, sym, ap, subst, ◌∙◌, inl, inr, ℕ, Bool, true, false, cond, List, [], ◌∷◌, ◌++◌, codes, Some, None, bytes_eq, Result, Err, IsErrAnd}
use Rattle.std.specs.Str.Parse.{starts_with_minus}
use Rattle.clap.proofs.OnLiterals.{clap_on_literals}
use Rattle.clap.proofs.FaultLemmas.{leaf_fault}
use Rattle.clap.specs.Faults.{check_fault, defaults_fault, fault_of, level_fault, settle_fault, turn_fault, walk_fault}
use Rattle.clap.specs.Kinds.{HasKind, IsAmong, Kinds, or_else, value_kinds}
use Rattle.clap.specs.Lexer.{strip_byte}
use Rattle.clap.specs.ValueTests.{accepts}
use Rattle.clap.specs.Walk.{Walk, finished, idle, nothing_held, option, settled, walk_from, walked}
use Rattle.clap.specs.Words.{built, kind_of}
use Rattle.clap.specs.declared.error.Error.{Error}
use Rattle.clap.specs.declared.error.kind.ErrorKind.{ErrorKind}
use Rattle.clap.specs.declared.error.kind.ErrorKind.TheVariants as kind
use Rattle.geo_words.proofs.Turns.{at, held, options, top}
use Rattle.geo_words.proofs.Teeth.{no_minus, teeth_are_accepted}
use Rattle.geo_words.specs.CommandLine.{comb_command, comb_reader, has_dashes}
use Rattle.geo_words.specs.Fault.{refusal_of}
use Rattle.geo_words.specs.declared.words.Asked.{Asked}
use Rattle.geo_words.specs.declared.words.WordsFault.{WordsFault}
use Rattle.geo_words.specs.declared.words.WordsFault.TheVariants as fault
use Rattle.geo_words.specs.Words.{IsTaken, apart, comb, joined, script}

pub no_hyphen : (text : List ℕ) → starts_with_minus text ≡ false → strip_byte 45 text ≡ None
no_hyphen [] h = refl
no_hyphen (c ∷ cs) h = rw h refl

not_dashes : (text : List ℕ) → starts_with_minus text ≡ false → bytes_eq text (45 ∷ 45 ∷ []) ≡ false
not_dashes [] h = refl
not_dashes (c ∷ cs) h = rw h refl

both_are_none : (first second : Kinds) → first ≡ [] → second ≡ [] → or_else first second ≡ []
both_are_none first second e f = rw e f

alone : (kinds : Kinds) → kinds ≡ [] → or_else kinds [] ≡ []
alone kinds e = rw e refl

module _ (text : List ℕ) (minus : starts_with_minus text ≡ false) (accepted : accepts false comb_reader text ≡ true) where
  value_passes : or_else (value_kinds false comb_reader text) [] ≡ []
  value_passes = ap (λ (b : Bool). or_else (cond b [] (kind.ValueValidation ∷ [])) []) accepted

  -- the second word
  value_turn : turn_fault top [] (at (held [] (Some (codes "comb", []))) (option (codes "comb"))) text ≡ []
  value_turn = rw (no_hyphen text minus, not_dashes text minus, no_hyphen text minus) refl

  value_walked : walked options [] (at (held [] (Some (codes "comb", []))) (option (codes "comb"))) text ≡ at (held [] (Some (codes "comb", text ∷ []))) idle
  unfolding walked
  value_walked = rw (no_hyphen text minus, not_dashes text minus, no_hyphen text minus) refl

  apart_walk : walk_fault top [] (walk_from nothing_held) (codes "--comb" ∷ text ∷ []) ≡ []
  unfolding walk_fault walked
  apart_walk = both_are_none _ _ value_turn refl

  apart_end : level_fault top [] nothing_held (codes "--comb" ∷ text ∷ []) false [] ≡ []
  unfolding walked defaults_fault
  apart_end =
      both_are_none (walk_fault top [] (walk_from nothing_held) (codes "--comb" ∷ text ∷ [])) _ apart_walk
      (subst (λ (w : Walk). or_else (settle_fault options false w.held) (or_else (defaults_fault (settled options w.held).rows options) (check_fault top (finished options w.held) false)) ≡ [])
      (sym value_walked) (both_are_none (or_else (value_kinds false comb_reader text) []) [] value_passes refl))

  apart_passes : fault_of comb_command (codes "--comb" ∷ text ∷ []) ≡ []
  apart_passes = leaf_fault (built comb_command) nothing_held (codes "--comb" ∷ text ∷ []) refl ∙ apart_end

  joined_passes : fault_of comb_command ((codes "--comb=" ++ text) ∷ []) ≡ []
  unfolding clap_on_literals
  joined_passes = alone _ (alone _ (alone _ value_passes))

no_words_pass : fault_of comb_command [] ≡ []
unfolding clap_on_literals
no_words_pass = refl

-- they have no fault, and none of them is `--`
pub taken_passes : (words : List (List ℕ)) → IsTaken words → (fault_of comb_command words ≡ []) × (has_dashes words ≡ false)
taken_passes words (script e) = rw e (no_words_pass, refl)
taken_passes words (comb k (apart text e h)) =
    let minus = no_minus text k h in
    rw e (apart_passes text minus (teeth_are_accepted text k h), rw (not_dashes text minus) refl)
taken_passes words (comb k (joined text e h)) = rw e (joined_passes text (no_minus text k h) (teeth_are_accepted text k h), refl)

-- so what the parser refuses asks for nothing, unless memory ran out
pub refused_is_not_taken : (words : List (List ℕ)) (e : Error) (r : Result Asked WordsFault) → HasKind (fault_of comb_command words) e → IsErrAnd r (λ fault. fault ≡ refusal_of (kind_of e))
    → r ≡ Err fault.Usage → ¬ IsTaken words
refused_is_not_taken words e r kinds told is taken = elim kinds [
  | inl memory ↦ absurd (usage_is_not_memory (subst (λ (k : ErrorKind). fault.Usage ≡ refusal_of k) memory is_told))
  | inr among ↦ subst (IsAmong (kind_of e)) (taken_passes words taken).0 among
]
  where
    is_told : fault.Usage ≡ refusal_of (kind_of e)
    is_told = rw is at told

    usage_is_not_memory : fault.Usage ≡ fault.Memory → ⊥
    usage_is_not_memory h = cc
