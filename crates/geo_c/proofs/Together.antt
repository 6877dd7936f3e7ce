-- What pieces are together, of talks that are the same.
use Rattle.std.proofs.Common.{◌≡◌, ℕ, List, ◌++◌, Result, subst, sym}
use Rattle.std.specs.Prelude.{OnOk}
use Rattle.geo_text.specs.Records.{AreWhole}
use Rattle.geo_script.specs.Dialog.{IsTalkOf, Talk}

-- with the pieces before this one is the script that they are together
abbrev pub Together : Talk → List ℕ → Talk → Type 0
Together before piece after = (earlier text : List ℕ) → IsTalkOf earlier text before → AreWhole earlier → IsTalkOf (earlier ++ piece) (text ++ after.text) after

module _ (before before' : Talk) (piece : List ℕ) (after after' : Talk) (was : before' ≡ before) (is : after' ≡ after) where
  pub same_talks : Together before' piece after → Together before piece after'
  same_talks told =
      subst (λ (t : Talk). Together t piece after') was (subst (λ (t : Talk). Together before' piece t) (sym is) told)

  pub same_talks_on_ok : {T E : Type 0} (r : Result T E) → OnOk r (Together before' piece after) → OnOk r (Together before piece after')
  same_talks_on_ok r told =
      subst (λ (t : Talk). OnOk r (Together t piece after')) was (subst (λ (t : Talk). OnOk r (Together before' piece t)) (sym is) told)
