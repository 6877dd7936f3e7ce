-- What a run answers where the words are refused.
use Rattle.std.proofs.Common.{◌≡◌, ap, List, ℕ, Result, Err, IsErrAnd, Ok}
use Rattle.geo_words.specs.Words.{IsTaken}
use Rattle.geo_words.specs.declared.words.Asked.{Asked}
use Rattle.geo_words.specs.declared.words.WordsFault.{WordsFault}
use Rattle.geo_words.specs.declared.words.WordsFault.TheVariants as refusal
use Rattle.geo_run.specs.Fault.{words_fault}
use Rattle.geo_run.specs.declared.run.RunFault.{RunFault}
use Rattle.geo_run.specs.declared.run.RunFault.TheVariants as fault

same_fault : {T : Type 0} (r : Result T RunFault) (f : RunFault) → IsErrAnd r (λ x. x ≡ f) → r ≡ Err f
same_fault (Ok t) f told = absurd told
same_fault (Err x) f told = ap (λ y. Err y) told

module _ {T : Type 0} (words : List (List ℕ)) (asked : Result Asked WordsFault) (f : WordsFault) (r : Result T RunFault) (refused : asked ≡ Err f) (told : IsErrAnd r (λ x. x ≡ words_fault f))
    (usage : asked ≡ Err refusal.Usage → ¬ IsTaken words) where
  pub usage_is_not_taken : r ≡ Err fault.Usage → ¬ IsTaken words
  usage_is_not_taken is = go f refused (rw is at told)
    where
      go : (g : WordsFault) → asked ≡ Err g → fault.Usage ≡ words_fault g → ¬ IsTaken words
      go refusal.Usage e h = usage e
      go refusal.Memory e h = cc

  pub taken_wants_memory : IsTaken words → r ≡ Err fault.Memory
  taken_wants_memory taken = go f refused told
    where
      go : (g : WordsFault) → asked ≡ Err g → IsErrAnd r (λ x. x ≡ words_fault g) → r ≡ Err fault.Memory
      go refusal.Usage e h = absurd (usage e taken)
      go refusal.Memory e h = same_fault r fault.Memory h
