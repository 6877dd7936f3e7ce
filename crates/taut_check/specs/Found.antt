-- What is found at one place of a list. No public clause cites this module.
use Rattle.std.specs.Prelude.{◌≡◌, ℕ, ◌-◌, ◌<◌, List, Option, None, Some}
use Rattle.plane.specs.Point.{Point, whole}
use Rattle.rings.specs.Chain.{point_at}
use Rattle.rings.specs.Orientation.{IsReflex}
use Rattle.rings.specs.Ring.{vertex}
use Rattle.rings.specs.Sees.{Sees}
use Rattle.taut_check.specs.Sound.{IsSound}
use Rattle.taut_check.specs.Verdict.{IsFirstRule}
use Rattle.taut_check.specs.declared.verdict.Verdict.{Verdict}
use Rattle.taut_check.specs.declared.verdict.Verdict.TheVariants as verdict

-- the place that a verdict names, and 0 where it names none
abbrev pub verdict_place : Verdict → ℕ
verdict_place verdict.Empty = 0
verdict_place verdict.Taut = 0
verdict_place (verdict.Repeat k) = k
verdict_place (verdict.Leaves k) = k
verdict_place (verdict.NotReflex k) = k
verdict_place (verdict.Straight k) = k
verdict_place (verdict.WrongSide k) = k

-- the first broken rule at place k was found, or none is broken
abbrev pub IsFoundAt : List Point → List Point → ℕ → Option Verdict → Type 0
IsFoundAt ring points k None = IsSound ring points k
IsFoundAt ring points k (Some found) = (verdict_place found ≡ k) × IsFirstRule ring points found

-- none of the vertices before number `end` is the point, and reflex
abbrev pub IsNoReflexBefore : List Point → ℕ → Point → Type 0
IsNoReflexBefore ring end p = (i : ℕ) → i < end → ¬ ((vertex ring i ≡ p) × IsReflex ring i)

-- the point at place k is the first, or the one before sees it
abbrev pub IsSeenAt : List Point → List Point → ℕ → Type 0
IsSeenAt ring points k = 0 < k → Sees ring (whole (point_at points (k - 1))) (whole (point_at points k))
