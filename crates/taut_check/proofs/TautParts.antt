-- A list keeps every rule at the places of a part of it that is a chain with bends.
use Rattle.std.proofs.Common.{◌≡◌, ◌∙◌, ap, inl, inr, ℕ, ◌+◌, ◌-◌, ◌<◌, ◌≤◌, List, length, take, drop, arith}
use Rattle.std.proofs.lemmas.Bool.{cases_eq, cases_lt}
use Rattle.std.proofs.lemmas.List.{get_or-drop, get_or-take}
use Rattle.plane.specs.Point.{Point}
use Rattle.rings.specs.Chain.{IsBentChain, point_at}
use Rattle.rings.specs.Ring.{origin}
use Rattle.taut_check.proofs.Verdicts.{sound_of_bent}
use Rattle.taut_check.specs.Sound.{AreSoundBefore, IsSound}

module _ (ring points : List Point) where
  -- at those before the last, where all of it is one
  pub sound_before_last : IsBentChain ring points → AreSoundBefore ring points (length points - 1)
  sound_before_last bent k below = sound_of_bent ring points bent k (omega (arith, below))

  -- the points from number `from` to before `to`
  module _ (from to : ℕ) (full : length (take (to - from) (drop from points)) ≡ to - from)
      (bent : IsBentChain ring (take (to - from) (drop from points))) where
    part_at : (k : ℕ) → from ≤ k → k < to → point_at (take (to - from) (drop from points)) (k - from) ≡ point_at points k
    part_at k after before =
        let place : from + (k - from) ≡ k = omega (arith, after) in
        get_or-take (to - from) (drop from points) (k - from) origin (omega (arith, after, before))
        ∙ get_or-drop from points (k - from) origin ∙ ap (point_at points) place

    in_part : (k : ℕ) → from ≤ k → k + 1 < to → (0 < k → from < k) → IsSound ring points k
    in_part k after before inner_too =
        let part = take (to - from) (drop from points) in
        let here = part_at k after (omega (arith, before)) in
        let place : k + 1 - from ≡ k - from + 1 = omega (arith, after) in
        let next : point_at part (k - from + 1) ≡ point_at points (k + 1) = rw place at (part_at (k + 1) (omega (arith, after)) before) in
        let follows : k - from + 1 < length part = omega (arith, full, after, before) in
        let sound = sound_of_bent ring part bent (k - from) (omega (arith, follows)) in
        record {
          distinct = λ _ same. sound.distinct follows (rw (here, next) same);
          inside = rw (← here) sound.inside;
          sees = λ _. rw (← here, ← next) (sound.sees follows);
          bend = λ inner.
              let later = inner_too inner.not_first in
              let place' : k - 1 - from ≡ k - from - 1 = omega (arith, later) in
              let last : point_at part (k - from - 1) ≡ point_at points (k - 1) = rw place' at (part_at (k - 1) (omega (arith, later)) (omega (arith, before))) in
              rw (← here, ← next, ← last) (sound.bend (record { not_first = omega (arith, later); not_last = follows }));
        }

    -- at those before its last, where the rules are kept at those up to its first, if that is not the first of all
    pub sound_in_part : (0 < from → AreSoundBefore ring points (from + 1)) → AreSoundBefore ring points (to - 1)
    sound_in_part known k below = elim (cases_lt from k) [
      | inl later ↦ in_part k (omega (arith, later)) (omega (arith, below)) (λ _. later)
      | inr early ↦ elim (cases_eq from 0) [
        | inl first ↦ in_part k (omega (arith, first)) (omega (arith, below)) (λ some. absurd (omega (arith, first, early, some)))
        | inr other ↦ known (omega (arith, other)) k (omega (arith, early))
      ]
    ]
