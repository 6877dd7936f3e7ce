-- From what is found at each place to the verdict on the whole list.
use Rattle.std.proofs.Common.{◌≡◌, ◌↔◌, inl, inr, subst, ℕ, ◌-◌, ◌<◌, ◌≤◌, List, length, arith, Result, Ok, Err}
use Rattle.std.specs.Prelude.{IfOk}
use Rattle.plane.specs.Point.{Point}
use Rattle.rings.specs.Chain.{IsBentChain, IsTaut, point_at}
use Rattle.rings.specs.Simple.{IsSimple}
use Rattle.funnels.proofs.OneChain.{taut_iff_bent}
use Rattle.taut_check.specs.Found.{verdict_place}
use Rattle.taut_check.specs.Sound.{IsSound}
use Rattle.taut_check.specs.Verdict.{IsBroken, IsFirstRule, IsLeastBroken, IsUnbroken, IsVerdict}
use Rattle.taut_check.specs.declared.verdict.Verdict.{Verdict}
use Rattle.taut_check.specs.declared.verdict.Verdict.TheVariants as verdict

module _ (ring points : List Point) where
  -- where every rule is kept, none is broken
  pub sound_not_broken : (k : ℕ) → IsSound ring points k → ¬ IsBroken ring points k
  sound_not_broken k sound (inl h) = sound.distinct h.not_last h.same
  sound_not_broken k sound (inr (inl (inl out))) = out sound.inside
  sound_not_broken k sound (inr (inl (inr h))) = h.unseen (sound.sees h.not_last)
  sound_not_broken k sound (inr (inr (inl h))) = h.not_reflex (sound.bend h.inner).reflex
  sound_not_broken k sound (inr (inr (inr (inl h)))) = (sound.bend h.inner).turns h.straight
  sound_not_broken k sound (inr (inr (inr (inr h)))) = h.outside ((sound.bend h.inner).in_cone h.neighbour h.beside)

  -- a bent chain keeps them everywhere
  pub sound_of_bent : IsBentChain ring points → (k : ℕ) → k < length points → IsSound ring points k
  sound_of_bent bent k below = record {
    distinct = bent.chain.distinct k;
    inside = bent.chain.inside k below;
    sees = bent.chain.sees k;
    bend = bent.bends k;
  }

  -- a first rule is a broken one
  broken_of_first : (found : Verdict) → IsFirstRule ring points found → IsBroken ring points (verdict_place found)
  broken_of_first verdict.Empty h = absurd h
  broken_of_first verdict.Taut h = absurd h
  broken_of_first (verdict.Repeat k) h = inl h
  broken_of_first (verdict.Leaves k) h = inr (inl h.1)
  broken_of_first (verdict.NotReflex k) h = inr (inr (inl h.2))
  broken_of_first (verdict.Straight k) h = inr (inr (inr (inl h.3)))
  broken_of_first (verdict.WrongSide k) h = inr (inr (inr (inr h.4)))

  -- a first rule at the least place is the verdict
  verdict_of_first : (found : Verdict) → IsLeastBroken ring points (verdict_place found) → IsFirstRule ring points found → IsVerdict ring points found
  verdict_of_first verdict.Empty least h = absurd h
  verdict_of_first verdict.Taut least h = absurd h
  verdict_of_first (verdict.Repeat k) least h = (least, h)
  verdict_of_first (verdict.Leaves k) least h = (least, h)
  verdict_of_first (verdict.NotReflex k) least h = (least, h)
  verdict_of_first (verdict.Straight k) least h = (least, h)
  verdict_of_first (verdict.WrongSide k) least h = (least, h)

  -- a verdict that names a rule is not that the list is taut
  first_not_taut : (found : Verdict) → IsFirstRule ring points found → ¬ (found ≡ verdict.Taut)
  first_not_taut verdict.Empty h e = h
  first_not_taut verdict.Taut h e = h
  first_not_taut (verdict.Repeat k) h e = cc
  first_not_taut (verdict.Leaves k) h e = cc
  first_not_taut (verdict.NotReflex k) h e = cc
  first_not_taut (verdict.Straight k) h e = cc
  first_not_taut (verdict.WrongSide k) h e = cc

  module _ (k : ℕ) (below : k < length points) (found : Verdict) (place : verdict_place found ≡ k) (first : IsFirstRule ring points found) where
    -- what was found at a place, where the rules are kept before it, is the verdict
    pub verdict_found : ((l : ℕ) → l < k → IsSound ring points l) → IsVerdict ring points found
    verdict_found sound = verdict_of_first found (record {
      in_list = omega arith;
      broken = broken_of_first found first;
      least = λ l less. sound_not_broken l (sound l (omega arith));
    }) first

    -- and the list is no bent chain
    pub taut_found : (found ≡ verdict.Taut) ↔ IsBentChain ring points
    taut_found = (
      λ e. absurd (first_not_taut found first e),
      λ bent. absurd (sound_not_broken k (sound_of_bent bent k below) (subst (λ (n : ℕ). IsBroken ring points n) place (broken_of_first found first))),
    )

  -- the rules are kept everywhere
  pub unbroken : 0 < length points → ((k : ℕ) → k < length points → IsSound ring points k) → IsUnbroken ring points
  unbroken some sound = record { some = some; none = λ k below. sound_not_broken k (sound k below) }

  -- so a verdict that tells chains with bends from others tells lists that are taut between their ends
  pub tells_taut : {E : Type 0} → 3 ≤ length ring → IsSimple ring → (found : Result Verdict E)
      → IfOk found (λ v. (v ≡ verdict.Taut) ↔ IsBentChain ring points)
      → IfOk found (λ v. (v ≡ verdict.Taut) ↔ IsTaut ring (point_at points 0) (point_at points (length points - 1)) points)
  tells_taut three simple (Ok v) iff = let taut = taut_iff_bent ring three simple points in (λ e. taut.1 (iff.0 e), λ h. iff.1 (taut.0 h))
  tells_taut three simple (Err e) iff = tt
